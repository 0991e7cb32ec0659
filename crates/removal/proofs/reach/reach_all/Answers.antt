use Prim.Native.Nat.{ℕ, suc, ◌+◌, ◌-◌, ◌≤◌}
use native.Mathlib.Omega.{arith}
use mathlib.Core.Path.{◌≡◌, sym, ◌∙◌, subst}
use mathlib.Core.List.{List}
use lib.ListN.{take}
use Rattle.removal.specs.Rows.{run_from, run_to}
use Rattle.removal.specs.Patches.{NamesIn}
use Rattle.removal.specs.Reach.{flag_of, Still, Uncovered, CopyPushed}
use Rattle.removal.proofs.Reaching.RowLaws.{ready_same, names_same}
use Rattle.removal.proofs.Reaching.CopyLaws.{still_trans, EndMarked, end_marked, RowsPushed, rows_start, rows_next, end_small, run_within}
use Rattle.removal.proofs.reach.reach_all.Goals as goal
use Rattle.removal.proofs.reach.reach_all.Goals.{After-flag_endpoint}

pub loop-c-init : goal.loop-c-init
loop-c-init c =
    let a = c.args in
    let r = c.requires.0 in (
      rows_start a.l a.endpoint.now (take a.l.slots a.scratch.now) a.scratch.now c.requires.4,
      c.requires.1,
      (λ q h. c.requires.5 q (omega (arith, h, run_within r.design r.list r.graph a.l (take a.l.slots a.scratch.now) r.tabled a.l.copies (omega arith)))),
    )

-- slot 0 of the copy is flagged where paths end there, and nothing else changes
marked : (c : After-flag_endpoint) → EndMarked c.args.l c.args.endpoint.now (take c.args.l.slots c.args.scratch.now) c.loop-c.scratch c.flag_endpoint.new.scratch (c.loop-c.c - 1)
marked c =
    let a = c.args in
    let r = c.requires.0 in
    let w = c.loop-c in
    let still = w.invariant.0.reached.still in
    end_marked a.l a.endpoint.now (take a.l.slots a.scratch.now) (w.c - 1) (omega arith) w.scratch c.flag_endpoint.new.scratch still.tables r.work.slots
    (omega (arith, r.work.seen, r.work.cover, r.work.patch, r.work.lead, r.work.comes, still.size)) c.flag_endpoint.ensures

unmoved : (c : After-flag_endpoint) → Still c.args.l c.args.scratch.now c.flag_endpoint.new.scratch
unmoved c = still_trans c.args.l c.args.scratch.now c.loop-c.scratch c.flag_endpoint.new.scratch c.loop-c.invariant.0.reached.still (marked c).still

pub push_copy-requires : goal.push_copy-requires
push_copy-requires c =
    let a = c.args in
    let s = a.scratch.now in
    let p = take a.l.slots s in
    let w = c.loop-c in
    let v = c.flag_endpoint.new.scratch in
    let r = c.requires.0 in
    let z = unmoved (goal.at.push_copy-requires c).After-flag_endpoint in
    let e = marked (goal.at.push_copy-requires c).After-flag_endpoint in
    let next : w.c ≡ suc (w.c - 1) = omega arith in (
      ready_same a.l s v z.size z.tables r,
      (λ q h. e.above (a.l.seen + q) (omega arith) ∙ w.invariant.1 q h),
      subst (λ (n : ℕ). NamesIn a.l v n) (sym w.auto.pos) (names_same a.l s v _ z.tables c.requires.2),
      omega arith,
      subst (λ (y : List ℕ). Uncovered a.l v (run_to a.l y (w.c - 1))) (sym z.tables)
          (λ q h. e.above (a.l.cover + q) (omega (arith, r.work.seen)) ∙ subst (λ (i : ℕ). Uncovered a.l w.scratch (run_from a.l p i)) next w.invariant.2 q h),
      subst (λ (y : List ℕ). flag_of a.l y v (w.c - 1) 0 ≤ 1) (sym z.tables) (end_small a.l a.endpoint.now p s w.scratch v (w.c - 1) w.c (omega arith) w.invariant.0 e),
    )

pub loop-c-preserved : goal.loop-c-preserved
loop-c-preserved c =
    let a = c.args in
    let s = a.scratch.now in
    let p = take a.l.slots s in
    let w = c.loop-c in
    let v = c.flag_endpoint.new.scratch in
    let u = c.push_copy.new.scratch in
    let before = (goal.at.loop-c-preserved c).After-flag_endpoint in
    let next : w.c ≡ suc (w.c - 1) = omega arith in
    let b = subst (λ (q : List ℕ). CopyPushed a.l q v u (w.c - 1)) (unmoved before).tables c.push_copy.ensures.0 in (
      rows_next a.l a.endpoint.now p s w.scratch v u (w.c - 1) (omega arith) (subst (λ (i : ℕ). RowsPushed a.l a.endpoint.now p s w.scratch i) next w.invariant.0) (marked before) b,
      b.idle,
      b.uncovered,
    )
