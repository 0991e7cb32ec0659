-- The tables of a list, one after the other: each pass finds what it asks, and the later ones leave what the earlier ones made.
use Prim.Native.Nat.{ℕ, zero, suc, ◌+◌, ◌*◌, ◌≤◌, ◌<◌}
use native.Mathlib.Omega.{arith}
use mathlib.Core.Path.{◌≡◌, refl, sym, ◌∙◌, ap, subst}
use mathlib.Core.List.{List, [], ◌∷◌, map}
use lib.ListN.{length, get_or, take}
use Rattle.timing.specs.Lists.{sum, upto}
use Rattle.timing.specs.Marks.{path_list, paths_of}
use Rattle.removal.specs.declared.classes.Lists.{Lists}
use Rattle.removal.specs.Table.{table, Frame}
use Rattle.removal.specs.Classes.{class_count, class_at}
use Rattle.removal.specs.Tables.{list_words, kid_in, kids_in, loc_in, one_in, marks_in, Ones, Whole, Kids, Held, Numbered, Linkable, Linked, Placeable, ClassesOf, Started, FailsBelow, Locs, marks_for, marks_below, Makeable, Made}
use Rattle.removal.proofs.Listing.ClassLaws.{classes_few}
use Rattle.removal.proofs.Listing.FlatLaws.{class_edge}
use Rattle.removal.proofs.Listing.PlaceLaws.{marks_total}
use Rattle.removal.proofs.Listing.Region.{frame_trans, frame_wider}

-- sums of the first numbers of a table, by what these are
sum_first : (f : ℕ → ℕ) (k : ℕ) (t : List ℕ) (v : ℕ) → ((i : ℕ) → i < length t → get_or t i 0 ≡ f (k + i)) → v ≤ length t → sum (take v t) ≡ sum (map f (upto v k))
sum_first f k t zero e h = refl
sum_first f k [] (suc v) e h = absurd (omega arith)
sum_first f k (x ∷ t) (suc v) e h =
    let here : f (k + 0) ≡ f k = ap f (omega arith) in
    omega (
      arith,
      e 0 (omega arith),
      here,
      sum_first f (suc k) t v (λ i l. let next : f (k + suc i) ≡ f (suc k + i) = ap f (omega arith) in e (suc i) (omega arith) ∙ next) (omega arith),
    )

sum_whole : (t : List ℕ) → sum (take (length t) t) ≡ sum t
sum_whole [] = refl
sum_whole (x ∷ t) = omega (arith, sum_whole t)

module _ (l : Lists) (starts listed lengths s₀ roots₀ first₀ : List ℕ) (w : Makeable l starts listed lengths s₀ roots₀ first₀) where
  abbrev L : List (List ℕ)
  L = paths_of (path_list listed lengths)

  held : (s : List ℕ) → length s ≡ length s₀ → Held L l s
  held s e =
      record {
        laid = w.laid;
        room = omega (arith, w.room, e);
        few_edges = omega (arith, w.size, w.list.few_edges);
        few = omega (arith, classes_few (path_list listed lengths) w.list.total, w.size);
      }

  known : (t e : ℕ) (k : List ℕ) → t ≤ class_count L → class_at L t ≡ e ∷ k → e < length starts
  known t e k h q =
      let r = class_edge (path_list listed lengths) t e k h q in
      omega (arith, w.known r.0 r.1, r.2)

  module _ (count : ℕ) (s s₁ : List ℕ) (f : Frame s₀ s l.loc (l.edges + 1)) (x : Started l listed lengths s s₁ count) where
    all : count ≡ class_count L
    all = x.all

    ones : Ones L (one_in l s₁)
    ones = x.ones

    whole : Whole L (loc_in l s₁)
    whole = x.whole

    f₁ : Frame s₀ s₁ l.loc (2 * l.edges + 1)
    f₁ = frame_trans s₀ s s₁ l.loc (2 * l.edges + 1) (frame_wider s₀ s l.loc (l.edges + 1) l.loc (2 * l.edges + 1) (omega arith) (omega arith) f) x.frame

    pub made_numbered : Numbered L l s₁ count
    made_numbered = record { all = all; held = held s₁ f₁.size; filled = w.list.filled; ones = ones }

    module _ (s₂ : List ℕ) (kids : Numbered L l s₁ count → Kids L (kid_in l s₂) (kids_in l s₂)) (f₂ : Frame s₁ s₂ l.kid (2 * l.edges + 1)) where
      size₂ : length s₂ ≡ length s₀
      size₂ = f₂.size ∙ f₁.size

      numbered₂ : Numbered L l s₂ count
      numbered₂ =
          record {
            all = all;
            held = held s₂ size₂;
            filled = w.list.filled;
            ones = subst (λ (x : List ℕ). Ones L x) (sym (f₂.above (l.one + 1) l.edges (omega (arith, w.laid.one, w.laid.kid)))) ones;
          }

      pub made_linkable : Linkable L l s₂ count (length starts)
      made_linkable =
          record {
            numbered = numbered₂;
            whole = subst (λ (x : List ℕ). Whole L x) (sym (f₂.above l.loc (l.edges + 1) (omega (arith, w.laid.loc, w.laid.kid)))) whole;
            kids = kids made_numbered;
            known = known;
          }

      module _ (s₃ roots live : List ℕ) (link : Linkable L l s₂ count (length starts) → Linked starts L l s₃ roots live) (roots_size : length roots ≡ length roots₀) (live-size : length live ≡ length first₀)
          (f₃ : Frame s₂ s₃ l.fail (2 * l.edges + 2)) where
        linked : Linked starts L l s₃ roots live
        linked = link made_linkable

        marks_sum : (v : ℕ) → v ≤ length live → sum (take v live) ≡ marks_below starts L v
        marks_sum v h = sum_first (marks_for starts L) 0 live v (λ i k. linked.lives i k ∙ ap (marks_for starts L) (omega arith)) h

        pub made_few : sum live < 4294967296
        made_few =
            omega (
              arith,
              sum_whole live,
              marks_sum (length live) (omega arith),
              marks_total starts L (length live),
              (held s₂ size₂).few,
              (held s₂ size₂).few_edges,
            )

        module _ (first : List ℕ) (first_size : length first ≡ length live) (sums : (v : ℕ) → v < length live → get_or first v 0 ≡ sum (take v live)) where
          firsts : (v : ℕ) → v ≤ 4096 → get_or first v 0 ≡ marks_below starts L v
          firsts v h = sums v (omega (arith, live-size, w.first_room)) ∙ marks_sum v (omega (arith, live-size, w.first_room))

          size₃ : length s₃ ≡ length s₀
          size₃ = f₃.size ∙ size₂

          pub made_placeable : Placeable starts L l s₃ first count
          made_placeable =
              record {
                numbered = record {
                  all = all;
                  held = held s₃ size₃;
                  filled = w.list.filled;
                  ones = subst (λ (x : List ℕ). Ones L x) (sym (f₃.above (l.one + 1) l.edges (omega (arith, w.laid.one, w.laid.fail)))) numbered₂.ones;
                };
                locs = linked.locs;
                known = known;
                nodes = w.nodes;
                size = first_size ∙ live-size ∙ w.first_room;
                firsts = firsts;
              }

          pub made_all : (s₄ : List ℕ) → (Placeable starts L l s₃ first count → ClassesOf starts L (marks_in l s₄)) → Frame s₃ s₄ (l.marks + 1) l.edges → Made l starts listed lengths s₀ roots₀ first₀ s₄ roots first
          made_all s₄ classes f₄ =
              record {
                frame = frame_trans s₀ s₃ s₄ 0 n
                    (frame_trans s₀ s₂ s₃ 0 n
                    (frame_trans s₀ s₁ s₂ 0 n (frame_wider s₀ s₁ l.loc (2 * l.edges + 1) 0 n (omega arith) (omega (arith, w.laid.loc)) f₁)
                    (frame_wider s₁ s₂ l.kid (2 * l.edges + 1) 0 n (omega arith) (omega (arith, w.laid.kid)) f₂))
                    (frame_wider s₂ s₃ l.fail (2 * l.edges + 2) 0 n (omega arith) (omega (arith, w.laid.fail)) f₃))
                    (frame_wider s₃ s₄ (l.marks + 1) l.edges 0 n (omega arith) (omega (arith, w.laid.marks)) f₄);
                automaton = record {
                  search = record {
                    held = held s₄ (f₄.size ∙ size₃);
                    filled = w.list.filled;
                    kids = subst (λ (x : List ℕ). Kids L x (kids_in l s₄)) (sym (kept₂ l.kid (l.edges + 1) (omega (arith, w.laid.kid, w.laid.fail))))
                        (subst (λ (x : List ℕ). Kids L (kid_in l s₂) x) (sym (kept₂ l.kids l.edges (omega (arith, w.laid.kids, w.laid.fail)))) (kids made_numbered));
                  };
                  fails = subst (λ (x : List ℕ). FailsBelow L x (suc (class_count L))) (sym (kept₃ l.fail (l.edges + 1) (omega (arith, w.laid.fail, w.laid.marks)))) linked.fails;
                  locs = subst (λ (x : List ℕ). Locs starts L x) (sym (kept₃ l.loc (l.edges + 1) (omega (arith, w.laid.loc, w.laid.marks)))) linked.locs;
                  classes = classes made_placeable;
                };
                roots_size = roots_size;
                first_size = first_size ∙ live-size;
                singles = linked.singles;
                firsts = firsts;
              }
            where
              n : ℕ
              n = list_words l.edges

              kept₃ : (b m : ℕ) → b + m ≤ l.marks + 1 → table s₄ b m ≡ table s₃ b m
              kept₃ b m h = f₄.below b m h

              kept₂ : (b m : ℕ) → b + m ≤ l.fail → table s₄ b m ≡ table s₂ b m
              kept₂ b m h = kept₃ b m (omega (arith, w.laid.fail, w.laid.marks)) ∙ f₃.below b m h
