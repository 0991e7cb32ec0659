-- The classes on a chain, one after the other, and the patches of a row when all are tried.
use Prim.Native.Nat.{ℕ, ◌+◌, ◌-◌, ◌≤◌, ◌<◌}
use native.Mathlib.Omega.{arith}
use native.Mathlib.Decide.{dec_lt}
use mathlib.Core.Path.{◌≡◌, sym, ◌∙◌, ap, subst}
use mathlib.Core.Logic.{⊎_elim}
use mathlib.Core.List.{List}
use lib.ListN.{length, get_or, take}
use lib.Seq.{get_or-take}
use Rattle.timing.specs.Graphs.{Design, Graph}
use Rattle.timing.specs.Marks.{PathList}
use Rattle.removal.specs.declared.rows.Layout.{Layout}
use Rattle.removal.specs.Rows.{Tabled, InRun, run_from, run_to, target}
use Rattle.removal.specs.Patches.{Rowed, Patched, Collected, patch_at, lead_at, Unseen, Gathered, Kept, Searching, KidsTell, TriedKids, kids_from, kids_to, NoKid, MarkClass, All, Forgettable, Forgotten}
use Rattle.removal.proofs.Reaching.RowLaws.{words}
use Rattle.removal.proofs.Patching.ChainLaws.{Chain, list_low, number_room, chain_start, chain_kids, chain_link, chain_next, chain_end}
use Rattle.removal.proofs.Patching.NoteLaws.{kept_refl, kept_trans, run_inside, gathered_none, gathered_few}

-- the chain of class f is walked down to class u, and k patches are noted
pub record Walked (l : Layout) (s t : List ℕ) (c j f u k : ℕ) : Type 0 where
  pub kept : Kept l s t
  pub gathered : Gathered l (take l.slots s) t c j k
  pub chain : Chain l (take l.slots s) t c f u

module _ (l : Layout) (s pos : List ℕ) (c j p0 p1 f : ℕ) (a : Searching l s pos c j p0 p1 0) (m : MarkClass l (take l.slots s) c j f) where
  abbrev p : List ℕ
  p = take l.slots s

  abbrev D : Design
  D = a.ready.design

  abbrev L : PathList
  L = a.ready.list

  abbrev G : Graph
  G = a.ready.graph

  tabled : Tabled a.ready.design a.ready.list a.ready.graph l (take l.slots s)
  tabled = a.ready.tabled

  pub walked_start : Walked l s s c j f f 0
  walked_start = record { kept = kept_refl l s; gathered = a.gathered; chain = chain_start D L G l p tabled c j f a.copy m s }

  module _ (t : List ℕ) (u k : ℕ) (x : Walked l s t c j f u k) where
    pub walked_all : u ≡ 0 → All l s t c j k
    walked_all z = record { kept = x.kept; gathered = x.gathered; rest = chain_end D L G l p tabled c j f a.copy m t u x.chain z }

    module _ (n : u ≡ 0 → ⊥) where
      pub walked_kids : KidsTell l (take l.slots t) t c j u (kids_from l (take l.slots t) u)
      walked_kids =
          subst (λ (y : List ℕ). KidsTell l y t c j u (kids_from l y u)) (sym x.kept.tables) (chain_kids D L G l p tabled c j f a.copy m t u x.chain n)

      module _ (t' : List ℕ) (k' : ℕ) (y : TriedKids l t t' c j u (kids_to l (take l.slots t) u) k') where
        kept : Kept l s t'
        kept = kept_trans l s t t' x.kept y.kept

        link : (l.lists.fail + u < l.slots) × (get_or (take l.slots s) (l.lists.fail + u) 0 < u)
        link = chain_link D L G l p tabled c j f a.copy m t u x.chain n

        link_read : get_or t' (l.lists.fail + u) 0 ≡ get_or (take l.slots s) (l.lists.fail + u) 0
        link_read =
            sym (get_or-take l.slots t' (l.lists.fail + u) 0 link.0) ∙ ap (λ (z : List ℕ). get_or z (l.lists.fail + u) 0) kept.tables

        pub walked_link : (l.lists.fail + u < length t') × (length t' ≡ length s) × (get_or t' (l.lists.fail + u) 0 < u)
        walked_link = (omega (arith, link.0, words l s a.ready, kept.size), kept.size, omega (arith, link.1, link_read))

        pub walked_next : Walked l s t' c j f (get_or t' (l.lists.fail + u) 0) k'
        walked_next =
            record {
              kept = kept;
              gathered = subst (λ (z : List ℕ). Gathered l z t' c j k') x.kept.tables y.gathered;
              chain =
                  subst (λ (v : ℕ). Chain l p t' c f v) (sym link_read)
                  (chain_next D L G l p tabled c j f a.copy m t u x.chain t' n (λ q r. y.less q (run_inside l s pos c j p0 p1 0 0 a q r))
                  (subst (λ (z : List ℕ). NoKid l z t' c u (kids_to l z u)) x.kept.tables y.none));
            }

-- a row: what the search begins with
module _ (l : Layout) (s pos : List ℕ) (c j p0 p1 : ℕ) (a : Rowed l s pos c j p0 p1) (some : 0 < j) where
  abbrev q : List ℕ
  q = take l.slots s

  pub row_searching : Searching l s pos c j p0 p1 0
  row_searching =
      record {
        ready = a.ready;
        names = a.names;
        noted = a.noted;
        copy = a.copy;
        from = a.from;
        to = a.to;
        gathered = gathered_none l (take l.slots s) s c j a.idle;
      }

  low : (l.first + c < l.slots) × (l.slots ≤ length s)
  low = (
    omega (arith, (list_low a.ready.design a.ready.list a.ready.graph l q a.ready.tabled c j a.copy some a.slot).1, a.copy),
    words l s a.ready,
  )

  first_read : get_or s (l.first + c) 0 ≡ get_or (take l.slots s) (l.first + c) 0
  first_read = sym (get_or-take l.slots s (l.first + c) 0 low.0)

  number : l.lists.marks + (get_or (take l.slots s) (l.first + c) 0 + j) < l.slots
  number = number_room a.ready.design a.ready.list a.ready.graph l q a.ready.tabled c j a.copy some a.slot

  pub row_room : (l.first + c < length s) × (l.lists.marks + (get_or s (l.first + c) 0 + j) < length s)
  row_room = (omega (arith, low.0, low.1), omega (arith, number, first_read, low.1))

  pub row_mark : MarkClass l (take l.slots s) c j (get_or s (l.lists.marks + (get_or s (l.first + c) 0 + j)) 0)
  row_mark =
      record {
        some = some;
        slot = a.slot;
        is =
            ap (λ (x : ℕ). get_or s (l.lists.marks + (x + j)) 0) first_read
            ∙ sym (get_or-take l.slots s (l.lists.marks + (get_or (take l.slots s) (l.first + c) 0 + j)) 0 number);
      }

  -- and what it leaves
  module _ (t : List ℕ) (k : ℕ) (x : All l s t c j k) where
    few : k ≤ run_to l (take l.slots s) c - run_from l (take l.slots s) c
    few = gathered_few l q t c j k x.gathered

    inside : (h : ℕ) → InRun l (take l.slots s) c h → h < l.edges
    inside = run_inside l s pos c j p0 p1 0 0 row_searching

    pub row_forgettable : Forgettable l t k
    row_forgettable =
        let w = a.ready.work in
        record {
          tables = omega (arith, w.slots);
          seen = omega (arith, w.seen, w.cover);
          room = omega (arith, few, a.ready.tabled.within c a.copy, w.patch, w.lead, w.comes, x.kept.size);
          edges = λ i h. inside (patch_at l t i) (x.gathered.edges i h);
        }

    module _ (t' : List ℕ) (y : Forgotten l t t' k) where
      patch_same : (i : ℕ) → patch_at l t' i ≡ patch_at l t i
      patch_same i = y.above (l.patch + i) (omega (arith, a.ready.work.seen, a.ready.work.cover))

      lead_same : (i : ℕ) → lead_at l t' i ≡ lead_at l t i
      lead_same i = y.above (l.lead + i) (omega (arith, a.ready.work.seen, a.ready.work.cover, a.ready.work.patch))

      unseen : (h : ℕ) → h < l.edges → Unseen l t' h
      unseen h m =
          ⊎_elim
          (λ (u : Unseen l t h). y.still h m u)
          (λ (z : (i : ℕ) × (i < k) × (patch_at l t i ≡ h)). subst (λ (e : ℕ). Unseen l t' e) z.2 (y.done z.0 z.1))
          (x.gathered.seen h m)

      below : (i : ℕ) → i < l.patch → Dec (i < l.seen) → Dec (i < l.seen + l.edges) → get_or t' i 0 ≡ get_or s i 0
      below i h (yes b) d = y.low i b ∙ x.kept.low i b
      below i h (no b) (yes d) =
          let e : l.seen + (i - l.seen) ≡ i = omega arith in
          let n : i - l.seen < l.edges = omega arith in
          subst (λ (z : ℕ). get_or t' z 0 ≡ get_or s z 0) e (unseen (i - l.seen) n ∙ sym (a.idle (i - l.seen) n))
      below i h (no b) (no d) = y.above i (omega arith) ∙ x.kept.middle i (omega arith) h

      patched : Patched l (take l.slots s) t' c j k
      patched =
          record {
            few = few;
            edges = λ i h. subst (λ (e : ℕ). InRun l q c e) (sym (patch_same i)) (x.gathered.edges i h);
            apart = λ i h m n e. x.gathered.apart i h m n (sym (patch_same i) ∙ e ∙ patch_same h);
            leads = λ D L G z i h. lead_same i ∙ x.gathered.leads i h D L G z ∙ ap (target D L G l q c j) (sym (patch_same i));
            rest = λ D L G z e r n.
                ⊎_elim
                (λ (u : Unseen l t e). x.rest D L G z e r u)
                (λ (o : (i : ℕ) × (i < k) × (patch_at l t i ≡ e)). absurd (n o.0 o.1 (patch_same o.0 ∙ o.2)))
                (x.gathered.seen e (inside e r));
          }

      pub row_collected : Collected l s t' c j k
      row_collected =
          record {
            size = y.size ∙ x.kept.size;
            below = λ i h. below i h (dec_lt i l.seen) (dec_lt i (l.seen + l.edges));
            above = λ i h.
                y.above i (omega (arith, a.ready.work.seen, a.ready.work.cover, a.ready.work.patch, a.ready.work.lead)) ∙ x.kept.above i h;
            tables = y.tables ∙ x.kept.tables;
            patched = patched;
          }
