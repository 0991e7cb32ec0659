-- Each pass that finds nothing wrong says that its test passes.
use mathlib.Core.Path.{sym, ◌∙◌}
use lib.ListN.{length}
use Rattle.path_list.proofs.Sound.{filled_sound, named_sound}
use Rattle.path_list.proofs.quick.all_pass.Goals as goal
use Rattle.path_list.proofs.quick.all_pass.Goals.{then-ends-starts, else-ends-starts, then-all_filled, else-all_filled}

pub returns-then-all_known : goal.returns-then-all_known
returns-then-all_known c = λ e.
    let a = c.args in
    elim c.if-all_filled.branch [
      | then-all_filled w ↦ elim c.if-ends-starts.branch [
        | then-ends-starts v ↦
            let filled = v.all_filled.ensures (sym v.value-is ∙ w.if-all_filled.true) in
            rw (
              filled_sound a.listed.now a.lengths.now filled.0 filled.1,
              named_sound (length a.starts.now) a.listed.now a.lengths.now (w.all_known.ensures (sym w.value-is ∙ c.if-all_known.true)),
            )
            (c.all_join.ensures e)
        | else-ends-starts v ↦ (cc)
      ]
      | else-all_filled w ↦ (cc)
    ]
