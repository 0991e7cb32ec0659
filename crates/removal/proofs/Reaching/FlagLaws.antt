-- The laws of the two passes over slots: a row of flags is right where it is what a pass makes of the rows before it. First
-- back from the highest copy, which slots have a permitted rest; then up from the lowest, which of them a path shows.
use Prim.Native.Nat.{ℕ, zero, suc, ◌+◌, ◌≤◌, ◌<◌}
use native.Mathlib.Omega.{arith}
use mathlib.Core.Path.{◌≡◌, refl, sym, ap, ◌∙◌, subst}
use mathlib.Core.Logic.{◌⊎◌, inl, inr, ⊎_elim}
use mathlib.Core.Bool.{Bool, true, false}
use mathlib.Core.List.{List, [], ◌∷◌, Memᴰ}
use lib.Dec.{T}
use lib.ListN.{length}
use Rattle.timing.specs.Graphs.{Design, Edge, Graph, starts_at, ends_at}
use Rattle.timing.specs.Marks.{PathList, paths_of, mark}
use Rattle.timing.specs.TrueGraphs.{Copy}
use Rattle.theorems.proofs.Marks.{begins}
use Rattle.theorems.proofs.Copies.{Shown}
use Rattle.theorems.proofs.Back.{Reached, none_permitted, reached_end, reached_step, reached_cases, shown_reached, shown_start, shown_step, shown_cases}
use Rattle.removal.specs.Slots.{slots, Used}
pub use Rattle.removal.specs.Flags.{ReachedRow, ShownRow, StepBack, Backward, StepOn, Forward}
use Rattle.removal.proofs.Reaching.SlotLaws.{Setting, used_nil, edge_slot, mark_slot}

module _ (G : Graph) (L : PathList) (marks : ℕ → ℕ → List ℕ) (B : ℕ → ℕ) where
  -- a row stays right while its flags are not changed
  pub reached_same : (reached after : ℕ → ℕ → Bool) (c : ℕ) → ((j : ℕ) → j < slots B c → after c j ≡ reached c j) → ReachedRow G L marks B reached c → ReachedRow G L marks B after c
  reached_same reached after c same row j h = (λ f. (row j h).0 (sym (same j h) ∙ f), λ r. same j h ∙ (row j h).1 r)

  pub shown_same : (shown after : ℕ → ℕ → Bool) (c : ℕ) → ((j : ℕ) → j < slots B c → after c j ≡ shown c j) → ShownRow G L marks B shown c → ShownRow G L marks B after c
  shown_same shown after c same row j h = (λ f. (row j h).0 (sym (same j h) ∙ f), λ r. same j h ∙ (row j h).1 r)

module _ (D : Design) (G : Graph) (L : PathList) (marks : ℕ → ℕ → List ℕ) (B : ℕ → ℕ) (S : Setting D G L marks B) where
  -- the slot of a mark that is reached, or shown
  pub reached_slot : (c : ℕ) → c < length G.nodes → (m : List ℕ) → Reached G (paths_of L) c m
      → (j : ℕ) × (j < slots B c) × (marks c j ≡ m) × Used marks c j
  reached_slot c h m r = mark_slot D G L marks B S c h m r.rest r.way r.permits r.marks

  pub shown_slot : (p : Copy) → p.at < length G.nodes → Shown G (paths_of L) p
      → (j : ℕ) × (j < slots B p.at) × (marks p.at j ≡ p.mark) × Used marks p.at j
  shown_slot p h s = reached_slot p.at h p.mark (shown_reached G (paths_of L) p s)

  start_inside : (e : Edge) → Memᴰ e G.edges → e.start < length G.nodes
  start_inside e m = omega (arith, S.legal.rising.up e m, S.legal.rising.inside e m)

  -- the slot from which an edge comes into a slot is there
  pub start_slot_lem : (e : Edge) → Memᴰ e G.edges → (w : List ℕ) → begins (paths_of L) (e.name ∷ w) ≡ false
      → (k : ℕ) × (k < slots B e.start) × (marks e.start k ≡ mark (paths_of L) (e.name ∷ w)) × Used marks e.start k
  start_slot_lem e m w b = edge_slot D G L marks B S e.start (start_inside e m) e m refl w b

  -- pass 1, from the rows of higher copies
  module _ (reached : ℕ → ℕ → Bool) (c : ℕ) (inside : c < length G.nodes) (higher : (d : ℕ) → c < d → d < length G.nodes → ReachedRow G L marks B reached d) where
    end_row : (e : Edge) → Memᴰ e G.edges → e.start ≡ c → ReachedRow G L marks B reached e.end
    end_row e m q = higher e.end (omega (arith, S.legal.rising.up e m)) (S.legal.rising.inside e m)

    -- a step back from a slot that is reached
    step_reached : (e : Edge) (k : ℕ) (m : List ℕ) → StepBack G L marks B reached c e k m → Reached G (paths_of L) c m
    step_reached e k m (i, q, h, f, b, x) =
        let r = (end_row e i q k h).0 f in
        subst (λ (y : List ℕ). Reached G (paths_of L) c y) (sym x)
        (subst (λ (y : ℕ). Reached G (paths_of L) y (mark (paths_of L) (e.name ∷ marks e.end k))) q
        (reached_step G (paths_of L) e (marks e.end k) i r.1 b))

    end_reached : T (ends_at G c) → Reached G (paths_of L) c []
    end_reached t = reached_end G (paths_of L) c t (none_permitted (paths_of L) S.fits.filled)

    -- what is reached is so at the end of a path, or by a step back
    reached_from : (m : List ℕ) → Reached G (paths_of L) c m → (T (ends_at G c) × (m ≡ [])) ⊎ ((e : Edge) × (k : ℕ) × StepBack G L marks B reached c e k m)
    reached_from m r =
        ⊎_elim
        inl
        (λ (s : (e : Edge) × (k : List ℕ) × Memᴰ e G.edges × (e.start ≡ c) × Reached G (paths_of L) e.end k × (begins (paths_of L) (e.name ∷ k) ≡ false) × (m ≡ mark (paths_of L) (e.name ∷ k))).
        let e : Edge = s.0 in
        let n : List ℕ = s.1 in
        let t = reached_slot e.end (S.legal.rising.inside e s.2) n s.4 in
        let k : ℕ = t.0 in
        let f = (end_row e s.2 s.3 k t.1).1 (t.3, subst (λ (y : List ℕ). Reached G (paths_of L) e.end y) (sym t.2) s.4) in
        let step : StepBack G L marks B reached c e k m = (
          s.2,
          s.3,
          t.1,
          f,
          ap (λ (y : List ℕ). begins (paths_of L) (e.name ∷ y)) t.2 ∙ s.5,
          s.6 ∙ ap (λ (y : List ℕ). mark (paths_of L) (e.name ∷ y)) (sym t.2),
        ) in
        inr (e, k, step))
        (reached_cases G (paths_of L) c m r)

    pub reached_row : Backward G L marks B reached c → ReachedRow G L marks B reached c
    reached_row p j h = (there, back)
      where
        there : reached c j ≡ true → Used marks c j × Reached G (paths_of L) c (marks c j)
        there f =
            let s = p.sound j h f in (
              s.0,
              ⊎_elim
                  (λ (t : T (ends_at G c) × (j ≡ 0)).
                  subst (λ (i : ℕ). Reached G (paths_of L) c (marks c i)) (sym t.1) (subst (λ (m : List ℕ). Reached G (paths_of L) c m) (sym (S.empty c)) (end_reached t.0)))
                  (λ (t : (e : Edge) × (k : ℕ) × StepBack G L marks B reached c e k (marks c j)).
                  step_reached t.0 t.1 (marks c j) t.2)
                  s.1,
            )

        back : Used marks c j × Reached G (paths_of L) c (marks c j) → reached c j ≡ true
        back r =
            ⊎_elim
            (λ (t : T (ends_at G c) × (marks c j ≡ [])).
            ap (reached c) (used_nil D G L marks B S c inside j r.0 t.1) ∙ p.ends t.0)
            (λ (t : (e : Edge) × (k : ℕ) × StepBack G L marks B reached c e k (marks c j)).
            p.steps t.0 t.1 j h r.0 t.2)
            (reached_from (marks c j) r.1)

  -- pass 2, from the rows of lower copies
  module _ (reached shown : ℕ → ℕ → Bool) (c : ℕ) (inside : c < length G.nodes) (here : ReachedRow G L marks B reached c)
      (lower : (d : ℕ) → d < c → ShownRow G L marks B shown d) where
    start_row : (e : Edge) → Memᴰ e G.edges → e.end ≡ c → ShownRow G L marks B shown e.start
    start_row e m q = lower e.start (omega (arith, S.legal.rising.up e m))

    abbrev at_slot : ℕ → Copy
    at_slot j = record { at = c; mark = marks c j }

    -- a step on from a slot that is shown
    step_shown : (j : ℕ) (e : Edge) (k : ℕ) → Reached G (paths_of L) c (marks c j) → StepOn G L marks B shown c j e k
        → Shown G (paths_of L) (at_slot j)
    step_shown j e k r (i, q, b, h, x, f) =
        let m : List ℕ = marks c j in
        let s = (start_row e i q k h).0 f in
        subst (λ (y : ℕ). Shown G (paths_of L) (record { at = y; mark = m })) q
        (shown_step G (paths_of L) e m i (subst (λ (y : ℕ). Reached G (paths_of L) y m) (sym q) r) b
        (subst (λ (y : List ℕ). Shown G (paths_of L) (record { at = e.start; mark = y })) x s.1))

    -- what is shown is so where paths start, or by a step on
    shown_from : (j : ℕ) → Shown G (paths_of L) (at_slot j) → T (starts_at G c) ⊎ ((e : Edge) × (k : ℕ) × StepOn G L marks B shown c j e k)
    shown_from j s =
        ⊎_elim
        inl
        (λ (t : (e : Edge) × Memᴰ e G.edges × (e.end ≡ c) × (begins (paths_of L) (e.name ∷ marks c j) ≡ false) × Shown G (paths_of L) (record { at = e.start; mark = mark (paths_of L) (e.name ∷ marks c j) })).
        let e : Edge = t.0 in
        let u = shown_slot (record { at = e.start; mark = mark (paths_of L) (e.name ∷ marks c j) }) (start_inside e t.1) t.4 in
        let k : ℕ = u.0 in
        let f = (start_row e t.1 t.2 k u.1).1
        (u.3, subst (λ (y : List ℕ). Shown G (paths_of L) (record { at = e.start; mark = y })) (sym u.2) t.4) in
        let step : StepOn G L marks B shown c j e k = (t.1, t.2, t.3, u.1, u.2, f) in
        inr (e, k, step))
        (shown_cases G (paths_of L) (at_slot j) s)

    pub shown_row : Forward G L marks B reached shown c → ShownRow G L marks B shown c
    shown_row p j h = (there, back)
      where
        there : shown c j ≡ true → Used marks c j × Shown G (paths_of L) (at_slot j)
        there f =
            let s = p.sound j h f in
            let r = (here j h).0 s.0 in (
              r.0,
              ⊎_elim
                  (λ t. shown_start G (paths_of L) (at_slot j) inside t r.1)
                  (λ (t : (e : Edge) × (k : ℕ) × StepOn G L marks B shown c j e k). step_shown j t.0 t.1 r.1 t.2)
                  s.1,
            )

        back : Used marks c j × Shown G (paths_of L) (at_slot j) → shown c j ≡ true
        back s =
            let f = (here j h).1 (s.0, shown_reached G (paths_of L) (at_slot j) s.1) in
            ⊎_elim
            (λ t. p.starts j h f t)
            (λ (t : (e : Edge) × (k : ℕ) × StepOn G L marks B shown c j e k). p.steps j h f t.0 t.1 t.2)
            (shown_from j s.1)

  -- so where each row is what a pass makes, all rows are right
  pub reached_rows : (reached : ℕ → ℕ → Bool) → ((c : ℕ) → c < length G.nodes → Backward G L marks B reached c)
      → (c : ℕ) → c < length G.nodes → ReachedRow G L marks B reached c
  reached_rows reached p c h = go (length G.nodes) c (omega arith) h
    where
      go : (k c : ℕ) → length G.nodes ≤ c + k → c < length G.nodes → ReachedRow G L marks B reached c
      go zero c a l = absurd (omega arith)
      go (suc k) c a l = reached_row reached c l (λ d b m. go k d (omega arith) m) (p c l)
