-- What pass 2 reads off the tables: how many edges come to a slot is counted over the run of its copy, first at the defaults, and then
-- patch by patch: each changes the test at one edge.
use Prim.Native.Nat.{ℕ, zero, suc, ◌+◌, ◌-◌, ◌≤◌, ◌<◌}
use native.Mathlib.Omega.{arith}
use native.Mathlib.Decide.{ℕ_discrete}
use mathlib.Core.Path.{◌≡◌, refl, sym, ap, ap₂, ◌∙◌}
use mathlib.Core.Bool.{Bool, true, false, cond}
use mathlib.Core.List.{List, [], ◌∷◌}
use lib.Dec.{eqb}
use lib.ListN.{length, get_or, take}
use borrow.Author.Tests.{eq-eqb, ne_eqb}
use Rattle.timing.specs.Lists.{one_if, count_of, upto}
use Rattle.timing.specs.Graphs.{Design, Graph}
use Rattle.timing.specs.Marks.{PathList}
use Rattle.theorems.proofs.Lists.{of_upto}
use Rattle.theorems.proofs.Counting.{count_cons, count_append, count_map}
use Rattle.theorems.proofs.Splits.{upto_next}
use Rattle.removal.specs.declared.rows.Layout.{Layout}
use Rattle.removal.specs.Slots.{slot_marks}
use Rattle.removal.specs.Rows.{slots_in, Tabled, Ready, flag_in, InRun, run, run_from, run_to, edge_in, default_in, target}
use Rattle.removal.specs.Patches.{patch_at, lead_at, Patched}
use Rattle.removal.specs.Show.{from_shown, shown_by, shown_at, edges_to, EdgesMeet, PatchedRow}
use Rattle.removal.proofs.Reaching.RowLaws.{read}
use Rattle.removal.proofs.Reaching.TargetLaws.{target_below, comes_shown}
use Rattle.removal.proofs.Showing.GrowLaws.{keep_same}

-- counts over numbers that follow one another
pub count_next : (f : ℕ → Bool) (n i : ℕ) → count_of f (upto (suc n) i) ≡ count_of f (upto n i) + one_if (f (i + n))
count_next f n i = omega (arith, ap (count_of f) (upto_next n i), count_append f (upto n i) ((i + n) ∷ []), count_cons f (i + n) [])

pub one_small : (b : Bool) → one_if b ≤ 1
one_small true = omega arith
one_small false = omega arith

pub count_few : (f : ℕ → Bool) (n i : ℕ) → count_of f (upto n i) ≤ n
count_few f zero i = omega arith
count_few f (suc n) i = omega (arith, count_cons f i (upto n (suc i)), count_few f n (suc i), one_small (f i))

pub count_same : (f g : ℕ → Bool) (n i : ℕ) → ((x : ℕ) → i ≤ x → x < i + n → f x ≡ g x) → count_of f (upto n i) ≡ count_of g (upto n i)
count_same f g n i h = ap length (keep_same f g (upto n i) (λ x m. let r = of_upto n i x m in h x r.0 r.1))

-- from p0 on, turn by turn
pub turn_first : (f : ℕ → Bool) (p0 : ℕ) → 0 ≡ count_of f (upto (p0 - p0) p0)
turn_first f p0 = let z : 0 ≡ p0 - p0 = omega arith in ap (λ (n : ℕ). count_of f (upto n p0)) z

pub turn_next : (f : ℕ → Bool) (p0 q : ℕ) → p0 ≤ q → count_of f (upto (q + 1 - p0) p0) ≡ count_of f (upto (q - p0) p0) + one_if (f q)
turn_next f p0 q h =
    let z : q + 1 - p0 ≡ suc (q - p0) = omega arith in
    let y : p0 + (q - p0) ≡ q = omega arith in
    omega (arith, ap (λ (n : ℕ). count_of f (upto n p0)) z, count_next f (q - p0) p0, ap (λ (n : ℕ). one_if (f n)) y)

-- two tests that differ at one of the numbers
count_change : (f g : ℕ → Bool) (n i x : ℕ) → i ≤ x → x < i + n → ((y : ℕ) → (y ≡ x → ⊥) → f y ≡ g y)
    → count_of f (upto n i) + one_if (g x) ≡ count_of g (upto n i) + one_if (f x)
count_change f g zero i x a b h = absurd (omega arith)
count_change f g (suc n) i x a b h = go (ℕ_discrete i x) (λ c. count_change f g n (suc i) x c (omega arith) h)
  where
    go : Dec (i ≡ x) → (suc i ≤ x → count_of f (upto n (suc i)) + one_if (g x) ≡ count_of g (upto n (suc i)) + one_if (f x))
        → count_of f (upto (suc n) i) + one_if (g x) ≡ count_of g (upto (suc n) i) + one_if (f x)
    go (yes e) next =
        omega (
          arith,
          count_cons f i (upto n (suc i)),
          count_cons g i (upto n (suc i)),
          count_same f g n (suc i) (λ y c d. h y (λ q. omega arith)),
          ap (λ (k : ℕ). one_if (f k)) e,
          ap (λ (k : ℕ). one_if (g k)) e,
        )
    go (no d) next = omega (arith, count_cons f i (upto n (suc i)), count_cons g i (upto n (suc i)), next (omega arith), ap one_if (h i d))

-- a test f, but at the numbers of the first patches, which have tests of their own
abbrev pub patch_test : (ℕ → Bool) → (ℕ → ℕ) → (ℕ → Bool) → ℕ → ℕ → Bool
patch_test f at g zero q = f q
patch_test f at g (suc i) q = cond (eqb (at i) q) (g i) (patch_test f at g i q)

module _ (f : ℕ → Bool) (at : ℕ → ℕ) (g : ℕ → Bool) where
  test_none : (i q : ℕ) → ((h : ℕ) → h < i → at h ≡ q → ⊥) → patch_test f at g i q ≡ f q
  test_none zero q no-patch = refl
  test_none (suc i) q no-patch =
      ap (λ (b : Bool). cond b (g i) (patch_test f at g i q)) (ne_eqb (at i) q (no-patch i (omega arith)))
      ∙ test_none i q (λ h k. no-patch h (omega arith))

  -- one patch more
  pub patch_next : (n a i : ℕ) → a ≤ at i → at i < a + n → ((h : ℕ) → h < i → at h ≡ at i → ⊥)
      → count_of (patch_test f at g (suc i)) (upto n a) + one_if (f (at i)) ≡ count_of (patch_test f at g i) (upto n a) + one_if (g i)
  patch_next n a i h k apart =
      omega (
        arith,
        count_change (patch_test f at g (suc i)) (patch_test f at g i) n a (at i) h k
            (λ y d. ap (λ (b : Bool). cond b (g i) (patch_test f at g i y)) (ne_eqb (at i) y (λ e. d (sym e)))),
        ap one_if (test_none i (at i) apart),
        ap (λ (b : Bool). one_if (cond b (g i) (patch_test f at g i (at i)))) (eq-eqb (at i) (at i) refl),
      )

  -- with all patches it is the test h
  pub test_all : (h : ℕ → Bool) (k q : ℕ) → ((i : ℕ) → i < k → g i ≡ h (at i)) → (((i : ℕ) → i < k → at i ≡ q → ⊥) → f q ≡ h q)
      → patch_test f at g k q ≡ h q
  test_all h zero q leads rest = rest (λ i l. absurd (omega arith))
  test_all h (suc k) q leads rest = go (ℕ_discrete (at k) q) (λ r. test_all h k q (λ i l. leads i (omega arith)) r)
    where
      go : Dec (at k ≡ q) → ((((i : ℕ) → i < k → at i ≡ q → ⊥) → f q ≡ h q) → patch_test f at g k q ≡ h q) → patch_test f at g (suc k) q ≡ h q
      go (yes e) next = ap (λ (b : Bool). cond b (g k) (patch_test f at g k q)) (eq-eqb (at k) q e) ∙ leads k (omega arith) ∙ ap h e
      go (no d) next =
          ap (λ (b : Bool). cond b (g k) (patch_test f at g k q)) (ne_eqb (at k) q d)
          ∙ next
          (λ none.
          rest (λ i l e.
          elim (ℕ_discrete i k) [
            | yes z ↦ d (ap at (sym z) ∙ e)
            | no z ↦ none i (omega arith) e
          ]))

-- the tests that the words of a scratch make
abbrev pub default_test : Layout → List ℕ → ℕ → Bool
default_test l s q = shown_at s (default_in l (take l.slots s) q)

abbrev pub lead_test : Layout → List ℕ → ℕ → Bool
lead_test l s i = shown_at s (lead_at l s i)

abbrev pub patched_test : Layout → List ℕ → ℕ → ℕ → Bool
patched_test l s = patch_test (default_test l s) (patch_at l s) (lead_test l s)

-- how many edges come to a slot, over the run
module _ (D : Design) (L : PathList) (G : Graph) (l : Layout) (s : List ℕ) (t : Tabled D L G l (take l.slots s)) (c : ℕ) (copy : c < l.copies) where
  in_run : (q : ℕ) → run_from l (take l.slots s) c ≤ q → q < run_from l (take l.slots s) c + (run_to l (take l.slots s) c - run_from l (take l.slots s) c)
      → InRun l (take l.slots s) c q
  in_run q a b = record { from = a; to = omega (arith, t.up c copy) }

  edges_run : (j : ℕ) → edges_to G L (slot_marks D L G) (slots_in l (take l.slots s)) (shown_by (flag_in l s)) c j
      ≡ count_of (λ q. shown_at s (target D L G l (take l.slots s) c j q)) (run l (take l.slots s) c)
  edges_run j =
      let p = take l.slots s in
      let f = from_shown L (slot_marks D L G) (slots_in l p) (shown_by (flag_in l s)) c j in
      ap (count_of f) (t.into c copy) ∙ count_map f (edge_in l p c) (run l p c)
      ∙ count_same (λ q. f (edge_in l p c q)) (λ q. shown_at s (target D L G l p c j q)) (run_to l p c - run_from l p c) (run_from l p c)
      (λ q a b. sym (comes_shown D L G l s t c q j copy (in_run q a b)))

  edges_default : edges_to G L (slot_marks D L G) (slots_in l (take l.slots s)) (shown_by (flag_in l s)) c 0
      ≡ count_of (default_test l s) (run l (take l.slots s) c)
  edges_default =
      let p = take l.slots s in
      edges_run 0
      ∙ count_same (λ q. shown_at s (target D L G l p c 0 q)) (default_test l s) (run_to l p c - run_from l p c) (run_from l p c)
      (λ q a b. ap (shown_at s) (sym (t.defaults c copy q (in_run q a b))))

  edges_patched : (j k : ℕ) → Patched l (take l.slots s) s c j k
      → edges_to G L (slot_marks D L G) (slots_in l (take l.slots s)) (shown_by (flag_in l s)) c j ≡ count_of (patched_test l s k) (run l (take l.slots s) c)
  edges_patched j k x =
      let p = take l.slots s in
      edges_run j
      ∙ count_same (λ q. shown_at s (target D L G l p c j q)) (patched_test l s k) (run_to l p c - run_from l p c) (run_from l p c)
      (λ q a b.
      sym (test_all (default_test l s) (patch_at l s) (lead_test l s) (λ q. shown_at s (target D L G l p c j q)) k q
      (λ i h. ap (shown_at s) (x.leads D L G t i h))
      (λ none. ap (shown_at s) (x.rest D L G t q (in_run q a b) none))))

-- all flags lie in the scratch
pub seen_inside : {l : Layout} {s : List ℕ} → Ready l s → l.seen ≤ length s
seen_inside r = omega (arith, r.work.seen, r.work.cover, r.work.patch, r.work.lead, r.work.comes)

module _ {l : Layout} {s : List ℕ} (r : Ready l s) {c : ℕ} (copy : c < l.copies) where
  -- no more than there are edges
  few_run : (f : ℕ → Bool) → count_of f (run l (take l.slots s) c) ≤ l.edges
  few_run f =
      let p = take l.slots s in
      omega (arith, count_few f (run_to l p c - run_from l p c) (run_from l p c), r.tabled.within c copy)

  default_meets : (n : ℕ) → n ≡ count_of (default_test l s) (run l (take l.slots s) c) → EdgesMeet l s c 0 n
  default_meets n e =
      record {
        few = omega (arith, few_run (default_test l s));
        counts = λ D L G t. e ∙ sym (edges_default D L G l s t c copy);
      }

  pub default_end : {p0 p1 q n : ℕ} → p0 ≡ run_from l (take l.slots s) c → p1 ≡ run_to l (take l.slots s) c → q ≡ p1
      → n ≡ count_of (default_test l s) (upto (q - p0) p0) → EdgesMeet l s c 0 n
  default_end {p0} {p1} {q} {n} from to e count =
      let p = take l.slots s in
      let z : q - p0 ≡ run_to l p c - run_from l p c = omega arith in
      default_meets n (count ∙ ap₂ (λ (k i : ℕ). count_of (default_test l s) (upto k i)) z from)

  meets_default : (n : ℕ) → EdgesMeet l s c 0 n → n ≡ count_of (default_test l s) (run l (take l.slots s) c)
  meets_default n m = m.counts r.design r.list r.graph r.tabled ∙ edges_default r.design r.list r.graph l s r.tabled c copy

  patched_meets : (j k n : ℕ) → Patched l (take l.slots s) s c j k → n ≡ count_of (patched_test l s k) (run l (take l.slots s) c) → EdgesMeet l s c j n
  patched_meets j k n x e =
      record {
        few = omega (arith, few_run (patched_test l s k));
        counts = λ D L G t. e ∙ sym (edges_patched D L G l s t c copy j k x);
      }

  pub run_edge : {p0 p1 q : ℕ} → p0 ≡ run_from l (take l.slots s) c → p1 ≡ run_to l (take l.slots s) c → p0 ≤ q → q < p1 → InRun l (take l.slots s) c q
  run_edge from to h k = record { from = omega arith; to = omega arith }

  -- a turn over the defaults: the words that it reads, and the count
  module _ {q : ℕ} (edge : InRun l (take l.slots s) c q) where
    default_word : l.default + q < l.slots
    default_word = omega (arith, edge.to, r.tabled.within c copy, r.tabled.laid.default)

    default_read : get_or s (l.default + q) 0 ≡ default_in l (take l.slots s) q
    default_read = read l s r (l.default + q) default_word

    default_place : get_or s (l.default + q) 0 < l.seen
    default_place =
        omega (
          arith,
          default_read,
          r.tabled.defaults c copy q edge,
          target_below r.design r.list r.graph l s r.tabled c q 0 copy edge r,
        )

    pub default_inside : get_or s (l.default + q) 0 < length s
    default_inside = omega (arith, default_place, seen_inside r)

    pub default_turn : {p0 n : ℕ} → p0 ≤ q → n ≡ count_of (default_test l s) (upto (q - p0) p0)
        → n + one_if (shown_at s (get_or s (l.default + q) 0)) ≡ count_of (default_test l s) (upto (q + 1 - p0) p0)
    default_turn {p0} h e = omega (arith, turn_next (default_test l s) p0 q h, ap (λ (z : ℕ). one_if (shown_at s z)) default_read)

    pub default_few : {p0 n : ℕ} → p0 ≤ q → n ≡ count_of (default_test l s) (upto (q - p0) p0) → n + one_if (shown_at s (get_or s (l.default + q) 0)) ≤ 65536
    default_few {p0} h e =
        omega (arith, default_turn h e, count_few (default_test l s) (q + 1 - p0) p0, edge.to, r.tabled.within c copy, r.tabled.few_edges)

-- a turn over the patches
module _ {l : Layout} {s : List ℕ} {c j k defaults : ℕ} (x : PatchedRow l s c j k defaults) where
  pub patch_start : defaults ≡ count_of (patched_test l s 0) (run l (take l.slots s) c)
  patch_start = meets_default x.ready x.copy defaults x.meets

  pub patch_few : (i : ℕ) {n : ℕ} → n ≡ count_of (patched_test l s i) (run l (take l.slots s) c) → n ≤ 65536
  patch_few i e = omega (arith, few_run x.ready x.copy (patched_test l s i), x.ready.tabled.few_edges)

  module _ {i : ℕ} (h : i < k) where
    pub patch_default : get_or s (l.default + patch_at l s i) 0 < length s
    patch_default = default_inside x.ready x.copy (x.patched.edges i h)

    pub patch_lead : lead_at l s i < length s
    patch_lead =
        omega (
          arith,
          seen_inside x.ready,
          x.patched.leads x.ready.design x.ready.list x.ready.graph x.ready.tabled i h,
          target_below x.ready.design x.ready.list x.ready.graph l s x.ready.tabled c (patch_at l s i) j x.copy (x.patched.edges i h) x.ready,
        )

    pub patch_turn : {count : ℕ} → count ≡ count_of (patched_test l s i) (run l (take l.slots s) c)
        → count_of (patched_test l s (i + 1)) (run l (take l.slots s) c) + one_if (shown_at s (get_or s (l.default + patch_at l s i) 0)) ≡ count + one_if (shown_at s (lead_at l s i))
    patch_turn e =
        let p = take l.slots s in
        let d = x.patched.edges i h in
        let n : i + 1 ≡ suc i = omega arith in
        omega (
          arith,
          patch_next (default_test l s) (patch_at l s) (lead_test l s) (run_to l p c - run_from l p c) (run_from l p c) i d.from (omega (arith, d.from, d.to))
              (λ a b. x.patched.apart a i b h),
          ap (λ (z : ℕ). count_of (patched_test l s z) (run l p c)) n,
          ap (λ (z : ℕ). one_if (shown_at s z)) (default_read x.ready x.copy d),
        )

  pub patch_end : {i n : ℕ} → i ≡ k → n ≡ count_of (patched_test l s i) (run l (take l.slots s) c) → EdgesMeet l s c j n
  patch_end {i} {n} e q =
      patched_meets x.ready x.copy j k n x.patched (q ∙ ap (λ (z : ℕ). count_of (patched_test l s z) (run l (take l.slots s) c)) e)
