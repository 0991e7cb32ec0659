-- The invariant: the rows from copy c on are right, what they reach in lower ones is marked, and no edge into a lower one is covered.
use lib.ListN.{take}
use Rattle.removal.specs.Rows.{Idle, run_from}
use Rattle.removal.specs.Reach.{Uncovered}
use Rattle.removal.proofs.Reaching.CopyLaws.{RowsPushed}
use Rattle.removal.proofs.reach.reach_all.Given as goal

abbrev pub invariant-loop-c : goal.invariant-loop-c
invariant-loop-c l =
    RowsPushed l.l l.endpoint (take l.l.slots l.initial.scratch) l.initial.scratch l.scratch l.c × Idle l.l l.scratch × Uncovered l.l l.scratch (run_from l.l (take l.l.slots l.initial.scratch) l.c)
