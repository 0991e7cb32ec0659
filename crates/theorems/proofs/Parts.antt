-- Removal in parts: what is removed from a graph that stands for (G, L) stands for (G, L ++ K). A copy of the result is a copy
-- h of H with a mark of K; its label has the longer of the two marks, from which both can be read again.
use Prim.Native.Nat.{ℕ, ◌<◌}
use mathlib.Core.Path.{◌≡◌, refl, sym, ap, ◌∙◌, subst}
use mathlib.Core.List.{List, [], ◌∷◌, ◌++◌, map, Memᴰ, nil≢cons, cons≢nil, head-eq_of_cons-eq, tail-eq_of_cons-eq}
use lib.Dec.{T}
use lib.ListN.{length}
use Rattle.timing.specs.Lists.{one_if}
use Rattle.timing.specs.Graphs.{Edge, Graph, node_of, endpoint_of, names}
use Rattle.timing.specs.Marks.{permitted, mark, longer}
use Rattle.timing.specs.TrueGraphs.{Copy, Join, copy_at, path_ends, true_graph}
use Rattle.theorems.proofs.Lists.{and_intro, and_left, and_right, same_test}
use Rattle.theorems.proofs.Marks.{mark_append, mark_through_left, mark_through_right, permitted_append}
use Rattle.theorems.proofs.Runs.{Rising, way_then}
use Rattle.theorems.proofs.Copies.{Passes, Shown, Joined, pass_on, path_ends_lem}
use Rattle.theorems.proofs.Stands.{join_of, Stands, passes_inside, lowered, names_lowered, start_shown, way_down, leads_down, way_up, leads_lift, start_up, true_stands}

map_append : {A B : Type 0} (f : A → B) (xs ys : List A) → map f (xs ++ ys) ≡ map f xs ++ map f ys
map_append f [] ys = refl
map_append f (x ∷ xs) ys = ap (λ (l : List _). f x ∷ l) (map_append f xs ys)

module _ (G H : Graph) (L K : List (List ℕ)) (up : Rising G) (S : Stands G L H) where
  -- a path of H that K permits is one of G that both permit
  down : (h : ℕ) (es : List Edge) → Passes H K h es → Passes G (L ++ K) (S.label h).at (map (lowered G H L up S) es) × ((S.label h).mark ≡ mark L (names es))
  down h es p =
      let inside = passes_inside S.rising p in
      let whole = way_down G H L up S p.first (p.head ++ es) p.inside (way_then H p.first h p.head es p.leads p.way) in
      let here = way_down G H L up S h es inside p.way in
      let n : names (map (lowered G H L up S) p.head ++ map (lowered G H L up S) es) ≡ names (p.head ++ es) =
      ap names (sym (map_append (lowered G H L up S) p.head es)) ∙ names_lowered G H L up S (p.head ++ es) in
      let a = S.every p.first p.inside in (
        record {
          first = (S.label p.first).at;
          head = map (lowered G H L up S) p.head;
          inside = passes_inside up a.0.1;
          starts = start_shown G H L up S p.first p.inside p.starts;
          leads = leads_down G H L up S p.first h p.head p.leads;
          way = here.0;
          permits = subst (λ (x : List ℕ). T (permitted (L ++ K) x)) (sym n)
              (subst T (sym (permitted_append L K (names (p.head ++ es)))) (and_intro (permitted L (names (p.head ++ es))) (permitted K (names (p.head ++ es))) whole.1 p.permits));
        },
        here.2,
      )

  -- the first list's part of what both permit
  left : (c : ℕ) (q : List Edge) → Passes G (L ++ K) c q → Passes G L c q
  left c q p =
      record {
        first = p.first;
        head = p.head;
        inside = p.inside;
        starts = p.starts;
        leads = p.leads;
        way = p.way;
        permits = and_left (permitted L (names (p.head ++ q))) (permitted K (names (p.head ++ q))) (subst T (permitted_append L K (names (p.head ++ q))) p.permits);
      }

  -- a path of G that both permit is one of H that K permits
  lift : (c : ℕ) (q : List Edge) → Passes G (L ++ K) c q → (es : List Edge) × Passes H K (S.number (copy_at L c q)) es × (map (lowered G H L up S) es ≡ q)
  unfolding left
  lift c q p =
      let l = left c q p in
      let start : Passes G L p.first (p.head ++ q) =
      record {
        first = p.first;
        head = [];
        inside = p.inside;
        starts = p.starts;
        leads = refl;
        way = way_then G p.first c p.head q p.leads p.way;
        permits = l.permits;
      } in
      let r = way_up G H L up S c q l in
      let h = leads_lift G H L up S p.first c p.head q start p.leads in
      let n : names (h.0 ++ r.0) ≡ names (p.head ++ q) =
      sym (names_lowered G H L up S (h.0 ++ r.0)) ∙ ap names (map_append (lowered G H L up S) h.0 r.0 ∙ (λ i. h.2 i ++ r.2 i)) in (
        r.0,
        record {
          first = S.number (copy_at L p.first (p.head ++ q));
          head = h.0;
          inside = (S.shown (copy_at L p.first (p.head ++ q)) (p.head ++ q, start, refl)).0;
          starts = start_up G H L up S p.first (p.head ++ q) start p.starts;
          leads = h.1;
          way = r.1;
          permits = subst (λ (x : List ℕ). T (permitted K x)) (sym n)
              (and_right (permitted L (names (p.head ++ q))) (permitted K (names (p.head ++ q))) (subst T (permitted_append L K (names (p.head ++ q))) p.permits));
        },
        r.2,
      )

  -- the labels and numbers of the result
  abbrev label₂ : ℕ → Copy
  label₂ c = let p = (true_stands H K S.rising).label c in record { at = (S.label p.at).at; mark = longer (S.label p.at).mark p.mark }

  abbrev number₂ : Copy → ℕ
  number₂ p = (true_stands H K S.rising).number (record { at = S.number (record { at = p.at; mark = mark L p.mark }); mark = mark K p.mark })

  -- the number of what a path shows, by way of H
  number_path : (c : ℕ) (q es : List Edge) → map (lowered G H L up S) es ≡ q
      → number₂ (copy_at (L ++ K) c q) ≡ (true_stands H K S.rising).number (copy_at K (S.number (copy_at L c q)) es)
  number_path c q es e =
      let n : names q ≡ names es = ap names (sym e) ∙ names_lowered G H L up S es in
      let a : mark L (mark (L ++ K) (names q)) ≡ mark L (names q) = sym (mark_through_left L K (names q)) in
      let b : mark K (mark (L ++ K) (names q)) ≡ mark K (names es) = sym (mark_through_right L K (names q)) ∙ ap (mark K) n in
      λ i. (true_stands H K S.rising).number (record { at = S.number (record { at = c; mark = a i }); mark = b i })

  -- the label of what a path of H shows
  label_path : (h : ℕ) (es : List Edge) (p : Passes H K h es) (c : ℕ) → (true_stands H K S.rising).label c ≡ copy_at K h es
      → label₂ c ≡ copy_at (L ++ K) (S.label h).at (map (lowered G H L up S) es)
  label_path h es p c e =
      ap (λ (x : Copy). record { at = (S.label x.at).at; mark = longer (S.label x.at).mark x.mark }) e
      ∙ (λ i. record { at = (S.label h).at; mark = m i })
    where
      m : longer (S.label h).mark (mark K (names es)) ≡ mark (L ++ K) (names (map (lowered G H L up S) es))
      m = ap (λ (x : List ℕ). longer x (mark K (names es))) (down h es p).1 ∙ sym (mark_append L K (names es)) ∙ ap (mark (L ++ K)) (sym (names_lowered G H L up S es))

  pub parts_stand : Stands G (L ++ K) (true_graph H K)
  parts_stand =
      record {
        label = label₂;
        number = number₂;
        rising = T'.rising;
        shown = shown₂;
        every = every₂;
        sizes = T'.sizes;
        ends = ends₂;
        joined = joined₂;
        edges = edges₂;
      }
    where
      T' : Stands H K (true_graph H K)
      T' = true_stands H K S.rising

      shown₂ : (p : Copy) → Shown G (L ++ K) p → (number₂ p < length (true_graph H K).nodes) × (label₂ (number₂ p) ≡ p)
      shown₂ p (q, s, m) =
          let r = lift p.at q s in
          let h = S.number (copy_at L p.at q) in
          let w = T'.shown (copy_at K h r.0) (r.0, r.1, refl) in
          let e : copy_at (L ++ K) p.at q ≡ p = λ i. record { at = p.at; mark = sym m i } in
          let n : number₂ p ≡ T'.number (copy_at K h r.0) = ap number₂ (sym e) ∙ number_path p.at q r.0 r.2 in
          let a : S.label h ≡ copy_at L p.at q = (S.shown (copy_at L p.at q) (q, left p.at q s, refl)).1 in (
            subst (λ (x : ℕ). x < length (true_graph H K).nodes) (sym n) w.0,
            label_path h r.0 r.1 (number₂ p) (ap T'.label n ∙ w.1)
                ∙ (λ i. copy_at (L ++ K) (a i).at (r.2 i)) ∙ e,
          )

      every₂ : (c : ℕ) → c < length (true_graph H K).nodes
          → Shown G (L ++ K) (label₂ c) × (number₂ (label₂ c) ≡ c) × (node_of (true_graph H K) c ≡ node_of G (label₂ c).at)
      every₂ c l =
          let v = T'.every c l in
          let es = v.0.0 in
          let h = (T'.label c).at in
          let p = v.0.1 in
          let f : T'.label c ≡ copy_at K h es = λ i. record { at = h; mark = v.0.2 i } in
          let d = down h es p in
          let e : label₂ c ≡ copy_at (L ++ K) (S.label h).at (map (lowered G H L up S) es) = label_path h es p c f in
          let i = passes_inside S.rising p in
          let b : copy_at L (S.label h).at (map (lowered G H L up S) es) ≡ S.label h =
          λ j. record { at = (S.label h).at; mark = (ap (mark L) (names_lowered G H L up S es) ∙ sym d.1) j } in (
            subst (Shown G (L ++ K)) (sym e) (map (lowered G H L up S) es, d.0, refl),
            ap number₂ e ∙ number_path (S.label h).at (map (lowered G H L up S) es) es refl
                ∙ ap (λ (x : ℕ). T'.number (copy_at K x es)) (ap S.number b ∙ (S.every h i).1) ∙ ap T'.number (sym f) ∙ v.1,
            v.2 ∙ (S.every h i).2,
          )

      -- a copy of the result is the one whose number its label has
      at : (c : ℕ) (d : ℕ) (w es : List Edge) → c < length (true_graph H K).nodes → label₂ c ≡ copy_at (L ++ K) d w → map (lowered G H L up S) es ≡ w
          → Shown H K (copy_at K (S.number (copy_at L d w)) es) → T'.label c ≡ copy_at K (S.number (copy_at L d w)) es
      at c d w es l z v s =
          ap T'.label (sym (every₂ c l).1 ∙ ap number₂ z ∙ number_path d w es v) ∙ (T'.shown (copy_at K (S.number (copy_at L d w)) es) s).1

      -- a path that ends at a copy of the result ends at the copy of H, and so at that of G; and the other way round
      ends₂ : (c : ℕ) → c < length (true_graph H K).nodes → endpoint_of (true_graph H K) c ≡ one_if (path_ends (L ++ K) G (label₂ c))
      ends₂ c l = T'.ends c l ∙ ap one_if (same_test (path_ends K H (T'.label c)) (path_ends (L ++ K) G (label₂ c)) there back)
        where
          there : T (path_ends K H (T'.label c)) → T (path_ends (L ++ K) G (label₂ c))
          there t =
              let r = (path_ends_lem H K S.rising (T'.label c)).0 t in
              let h = (T'.label c).at in
              let e = label_path h [] r.0 c (λ i. record { at = h; mark = r.1 i }) in
              subst (λ (p : Copy). T (path_ends (L ++ K) G p)) (sym e) ((path_ends_lem G (L ++ K) up (copy_at (L ++ K) (S.label h).at [])).1 ((down h [] r.0).0, refl))

          back : T (path_ends (L ++ K) G (label₂ c)) → T (path_ends K H (T'.label c))
          back t =
              let r = (path_ends_lem G (L ++ K) up (label₂ c)).0 t in
              let d = (label₂ c).at in
              let s = lift d [] r.0 in
              go d s.0 s.1 s.2 (λ i. record { at = d; mark = r.1 i })
            where
              go : (d : ℕ) (es : List Edge) → Passes H K (S.number (copy_at L d [])) es → map (lowered G H L up S) es ≡ [] → label₂ c ≡ copy_at (L ++ K) d [] → T (path_ends K H (T'.label c))
              go d [] p v e =
                  subst (λ (x : Copy). T (path_ends K H x)) (sym (at c d [] [] l e v ([], p, refl)))
                  ((path_ends_lem H K S.rising (copy_at K (S.number (copy_at L d [])) [])).1 (p, refl))
              go d (f ∷ es) p v e = absurd (cons≢nil v)

      joined₂ : (e : Edge) → Memᴰ e (true_graph H K).edges → Joined G (L ++ K) (join_of label₂ e)
      joined₂ e m = go (T'.joined e m)
        where
          go : Joined H K (join_of T'.label e) → Joined G (L ++ K) (join_of label₂ e)
          go (f, es, p, x) =
              let a = label_path f.start (f ∷ es) p e.start (ap (λ (j : Join). j.start) x) in
              let b = label_path f.end es (pass_on p) e.end (ap (λ (j : Join). j.end) x) in
              let k = ap (λ (j : Join). j.name) x in
              (lowered G H L up S f, map (lowered G H L up S) es, (down f.start (f ∷ es) p).0, λ i. record { start = a i; end = b i; name = k i })

      edges₂ : (e : Edge) → e.start < length (true_graph H K).nodes → e.end < length (true_graph H K).nodes
          → Joined G (L ++ K) (join_of label₂ e) → Memᴰ e (true_graph H K).edges
      edges₂ e hs he (g, q, p, x) =
          let r = lift g.start (g ∷ q) p in
          go r.0 r.1 r.2
        where
          go : (es : List Edge) → Passes H K (S.number (copy_at L g.start (g ∷ q))) es → map (lowered G H L up S) es ≡ g ∷ q
              → Memᴰ e (true_graph H K).edges
          go [] s v = absurd (nil≢cons v)
          go (f ∷ es) s v =
              let tail : map (lowered G H L up S) es ≡ q = tail-eq_of_cons-eq v in
              let head : lowered G H L up S f ≡ g = head-eq_of_cons-eq v in
              let on = pass_on s in
              let inside = passes_inside S.rising on in
              let m : mark L (names q) ≡ (S.label f.end).mark =
              ap (mark L) (ap names (sym tail) ∙ names_lowered G H L up S es) ∙ sym (down f.end es on).1 in
              let n : S.number (copy_at L g.end q) ≡ f.end =
              ap S.number (λ i. record { at = sym (ap (λ (y : Edge). y.end) head) i; mark = m i }) ∙ (S.every f.end inside).1 in
              let a = at e.start g.start (g ∷ q) (f ∷ es) hs (ap (λ (j : Join). j.start) x) v (f ∷ es, s, refl) in
              let b = at e.end g.end q es he (ap (λ (j : Join). j.end) x) tail (es, subst (λ (y : ℕ). Passes H K y es) (sym n) on, refl) in
              let k : e.name ≡ f.name = ap (λ (j : Join). j.name) x ∙ ap (λ (y : Edge). y.name) (sym head) in
              T'.edges e hs he (
                f,
                es,
                subst (λ (y : ℕ). Passes H K y (f ∷ es)) (sym s.way.1) s,
                λ i. record {
                  start = (a ∙ ap (λ (y : ℕ). copy_at K y (f ∷ es)) (sym s.way.1)) i;
                  end = (b ∙ ap (λ (y : ℕ). copy_at K y es) n) i;
                  name = k i;
                },
              )
