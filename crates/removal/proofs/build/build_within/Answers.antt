-- The array is all zero, and long enough for so few edges.
use Prim.Native.Nat.{ℕ}
use lib.ListN.{length-replicate}
use Rattle.removal.proofs.Building.CountLaws.{zeros}
use Rattle.removal.proofs.build.build_within.Goals as goal

pub build_with-requires : goal.build_with-requires
build_with-requires g c =
    (c.requires.0, rw (length-replicate {A = ℕ} g.row.EDGES 0) c.requires.1, zeros g.row.EDGES)
