-- Each pass meets what the next one asks, and together they are what is found.
use Rattle.removal.proofs.Reaching.RowLaws.{names_more}
use Rattle.removal.proofs.Whole.RemoveLaws.{buildable, built_ready, endpoints_all, found}
use Rattle.removal.proofs.remove.find.Goals as goal

pub build-layout-requires : goal.build-layout-requires
build-layout-requires c = buildable _ _ _ _ _ _ _ _ _ _ c.requires.0

pub reach_all-requires : goal.reach_all-requires
reach_all-requires c =
    let b = c.build-layout.ensures in (
      built_ready _ _ _ _ _ _ _ _ _ _ _ _ c.requires.0 b,
      b.idle,
      names_more c.build-layout.result _ _ _ c.requires.1 b.names,
      endpoints_all _ _ _ _ _ _ _ _ _ _ _ _ c.requires.0 b,
      b.clear,
      b.uncovered,
    )

pub returns : goal.returns
returns c =
    let e = c.reach_all.ensures in
    (found _ _ _ _ _ _ _ _ _ _ _ _ c.requires.0 c.build-layout.ensures _ e.0 e.1, e.2)
