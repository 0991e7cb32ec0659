-- Laws of the look and of the fill, and steps of the walks by hand.
pub mod Looking
pub mod Reading
