-- Laws of the tables, of slots, of the passes over them and of what they find, a folder for each pass.
pub mod Listing
pub mod Building
pub mod Reaching
pub mod Patching
pub mod Showing
pub mod Filling
pub mod Whole
