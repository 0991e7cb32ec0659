-- The edges into a copy are in the order of their names, in the design and in a well-formed graph.
use Prim.Native.Nat.{ℕ, zero, suc, ◌≤◌, ◌<◌}
use native.Mathlib.Omega.{arith}
use mathlib.Core.Path.{◌≡◌, refl, sym, ap, ◌∙◌}
use mathlib.Core.Logic.{◌⊎◌, inl, inr, ⊎_elim}
use mathlib.Core.Bool.{◌&&◌}
use mathlib.Core.List.Memᴰ
use mathlib.Core.List.{List, [], ◌∷◌, map, Memᴰ}
use lib.Dec.{T, eqb, ltb, eqb→eq, eqb_refl, ltb→lt, lt→ltb}
use lib.ListN.{length, length-map}
use Rattle.timing.specs.Lists.{keep, each_next, upto}
use Rattle.timing.specs.Graphs.{Design, design_graph, Edge, edge, edges_of, Graph, edges_in}
use Rattle.timing.specs.WellFormed.{edge_rises}
use Rattle.theorems.proofs.Lists.{and_intro, and_left, and_right, or_cases, or_left, or_right, of_keep, length_upto}
use Rattle.theorems.proofs.Counting.{next_sorted}
use Rattle.theorems.proofs.Sorting.{Sorted}
use Rattle.theorems.proofs.Runs.{mem_in}
pub use Rattle.removal.specs.Result.{edge_at}
use Rattle.removal.proofs.Showing.Ascending.{Ascending, ascending_keep, ascending_by}
use Rattle.removal.proofs.Showing.ResultLaws.{EdgesInto}

-- edges with one end are in the order of their names
abbrev pub NamesRise : List Edge → Type 0
NamesRise l = Ascending (λ (e f : Edge). e.end ≡ f.end → e.name < f.name) l

pub names_into : (G : Graph) → NamesRise G.edges → EdgesInto G (edges_in G)
unfolding edges_in
names_into G a =
    record {
      members = mem_in G;
      rises = λ c.
          ascending_by (λ (e f : Edge). e.end ≡ f.end → e.name < f.name) (λ (e f : Edge). e.name < f.name) (keep (λ e. eqb e.end c) G.edges)
          (ascending_keep (λ (e f : Edge). e.end ≡ f.end → e.name < f.name) (λ e. eqb e.end c) G.edges a)
          (λ e f m k h.
          let p : e.end ≡ c = eqb→eq e.end c (of_keep (λ e. eqb e.end c) G.edges m).1 in
          let q : f.end ≡ c = eqb→eq f.end c (of_keep (λ e. eqb e.end c) G.edges k).1 in
          h (p ∙ sym q));
    }

-- a well-formed graph has its edges in order
abbrev Rise : Edge → Edge → Type 0
Rise e f = (e.end < f.end) ⊎ ((e.end ≡ f.end) × (e.name < f.name))

rise_sound : (e f : Edge) → T (edge_rises e f) → Rise e f
rise_sound e f t =
    ⊎_elim
    (λ h. inl (ltb→lt e.end f.end h))
    (λ h. inr (eqb→eq e.end f.end (and_left (eqb e.end f.end) (ltb e.name f.name) h), ltb→lt e.name f.name (and_right (eqb e.end f.end) (ltb e.name f.name) h)))
    (or_cases (ltb e.end f.end) (eqb e.end f.end && ltb e.name f.name) t)

rise_complete : (e f : Edge) → Rise e f → T (edge_rises e f)
rise_complete e f (inl h) = or_left (ltb e.end f.end) (eqb e.end f.end && ltb e.name f.name) (lt→ltb e.end f.end h)
rise_complete e f (inr h) =
    or_right (ltb e.end f.end) (eqb e.end f.end && ltb e.name f.name)
    (and_intro (eqb e.end f.end) (ltb e.name f.name) (rw h.0 (eqb_refl f.end)) (lt→ltb e.name f.name h.1))

rise_trans : (e f g : Edge) → Rise e f → Rise f g → Rise e g
rise_trans e f g (inl h) (inl k) = inl (omega arith)
rise_trans e f g (inl h) (inr k) = inl (omega arith)
rise_trans e f g (inr h) (inl k) = inl (omega arith)
rise_trans e f g (inr h) (inr k) = inr (omega arith, omega arith)

rise_names : (e f : Edge) → Rise e f → e.end ≡ f.end → e.name < f.name
rise_names e f (inl h) q = absurd (omega arith)
rise_names e f (inr h) q = h.1

sorted_names : (l : List Edge) → Sorted edge_rises l → NamesRise l
sorted_names [] s = tt
sorted_names (e ∷ l) s = (λ f m q. rise_names e f (rise_sound e f (s.0 f m)) q, sorted_names l s.1)

pub formed_into : (G : Graph) → T (each_next edge_rises G.edges) → EdgesInto G (edges_in G)
formed_into G t =
    names_into G
    (sorted_names G.edges
    (next_sorted edge_rises (λ x y z a b. rise_complete x z (rise_trans x y z (rise_sound x y a) (rise_sound y z b))) G.edges t))

-- the edges of the design are named by their numbers
names_from : (starts ends : List ℕ) (n i : ℕ) (e : Edge) → Memᴰ e (edges_of starts ends (upto n i)) → i ≤ e.name
names_from [] ends n i e m = absurd (Memᴰ.not-nil m)
names_from (s ∷ starts) [] n i e m = absurd (Memᴰ.not-nil m)
names_from (s ∷ starts) (t ∷ ends) zero i e m = absurd (Memᴰ.not-nil m)
names_from (s ∷ starts) (t ∷ ends) (suc n) i e m =
    ⊎_elim
    (λ (q : e ≡ edge s t i). omega (arith, ap (λ (x : Edge). x.name) q))
    (λ h. omega (arith, names_from starts ends n (suc i) e h))
    (Memᴰ.cases_cons m)

names_rise : (starts ends : List ℕ) (n i : ℕ) → NamesRise (edges_of starts ends (upto n i))
names_rise [] ends n i = tt
names_rise (s ∷ starts) [] n i = tt
names_rise (s ∷ starts) (t ∷ ends) zero i = tt
names_rise (s ∷ starts) (t ∷ ends) (suc n) i =
    (λ f m q. omega (arith, names_from starts ends n (suc i) f m), names_rise starts ends n (suc i))

pub design_into : (D : Design) → EdgesInto (design_graph D) (edges_in (design_graph D))
unfolding design_graph
design_into D = names_into (design_graph D) (names_rise D.starts D.ends (length D.starts) 0)

map_upto : {A : Type 0} (f : ℕ → A) (n i : ℕ) → map f (upto n (suc i)) ≡ map (λ k. f (suc k)) (upto n i)
map_upto f zero i = refl
map_upto {A} f (suc n) i = ap (λ (l : List A). f (suc i) ∷ l) (map_upto f n (suc i))

pub edges_map : (starts ends names : List ℕ) → length ends ≡ length starts → length names ≡ length starts
    → edges_of starts ends names ≡ map (edge_at starts ends names) (upto (length starts) 0)
edges_map [] ends names p q = refl
edges_map (s ∷ starts) [] names p q = absurd (omega arith)
edges_map (s ∷ starts) (t ∷ ends) [] p q = absurd (omega arith)
edges_map (s ∷ starts) (t ∷ ends) (k ∷ names) p q =
    ap (λ (l : List Edge). edge s t k ∷ l)
    (edges_map starts ends names (omega arith) (omega arith)
    ∙ sym (map_upto (edge_at (s ∷ starts) (t ∷ ends) (k ∷ names)) (length starts) 0))

pub length_edges : (starts ends names : List ℕ) → length ends ≡ length starts → length names ≡ length starts → length (edges_of starts ends names) ≡ length starts
length_edges starts ends names p q =
    ap length (edges_map starts ends names p q) ∙ length-map (upto (length starts) 0) (edge_at starts ends names) ∙ length_upto (length starts) 0
