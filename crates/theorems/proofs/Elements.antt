-- Slices that a loop fills place by place, and slices with a place for each copy or node.
use Prim.Native.Nat.{ℕ, zero, suc, ◌+◌, ◌≤◌, ◌<◌}
use native.Mathlib.Omega.{arith}
use native.Mathlib.Decide.{ℕ_discrete}
use mathlib.Core.Path.{◌≡◌, refl, sym, ◌∙◌, ap}
use mathlib.Core.List.{List, ◌∷◌, map}
use lib.ListN.{length, get_or, set, replicate, length-set, length-map}
use lib.Seq.{get_or-set_same, get_or-set_other, ext_get_or}
use Rattle.timing.specs.Lists.{upto}
use Rattle.theorems.proofs.Lists.{length_upto}
use Rattle.theorems.proofs.Nodes.{at_copy}

-- the length of a list with a place for each of n
pub size_each : {A : Type 0} (f : ℕ → A) (n : ℕ) → length (map f (upto n 0)) ≡ n
size_each f n = length-map (upto n 0) f ∙ length_upto n 0

-- one value at each of n places
pub each_one : {A : Type 0} (x : A) (n i : ℕ) → replicate n x ≡ map (λ c. x) (upto n i)
each_one x zero i = refl
each_one x (suc n) i = ap (λ (l : List _). x ∷ l) (each_one x n (suc i))

-- z is what a list reads past its end
module _ {A : Type 0} (z : A) where
  -- the places below i hold what they are to hold, and the others still what they held
  pub record Done (f : ℕ → A) (i : ℕ) (old l : List A) : Type 0 where
    pub size : length l ≡ length old
    pub below : (c : ℕ) → c < i → get_or l c z ≡ f c
    pub above : (c : ℕ) → i ≤ c → get_or l c z ≡ get_or old c z

  pub done_none : (f : ℕ → A) (l : List A) → Done f 0 l l
  done_none f l = record { size = refl; below = λ c h. absurd (omega arith); above = λ c h. refl }

  pub done_next : (f : ℕ → A) (i : ℕ) (old l : List A) (x : A) → i < length l → x ≡ f i → Done f i old l → Done f (i + 1) old (set l i x)
  done_next f i old l x h e d = record {
    size = length-set l i x ∙ d.size;
    below = λ c k. go c k (ℕ_discrete c i);
    above = λ c k. get_or-set_other l i c x z (λ q. omega arith) ∙ d.above c (omega arith);
  }
    where
      go : (c : ℕ) → c < i + 1 → Dec (c ≡ i) → get_or (set l i x) c z ≡ f c
      go c k (yes q) = rw q (get_or-set_same l i x z h ∙ e)
      go c k (no q) = get_or-set_other l i c x z q ∙ d.below c (omega arith)

  -- what a list with a place for each of n holds
  pub at_each : (f : ℕ → A) (n c : ℕ) → c < n → get_or (map f (upto n 0)) c z ≡ f c
  at_each f n c h = let k : 0 + c ≡ c = omega arith in at_copy z f n 0 c h ∙ ap f k

  pub is_each : (f : ℕ → A) (n : ℕ) (l : List A) → length l ≡ n → ((c : ℕ) → c < n → get_or l c z ≡ f c) → l ≡ map f (upto n 0)
  is_each f n l s e =
      ext_get_or z l (map f (upto n 0)) (s ∙ sym (size_each f n))
      (λ c h. let k : c < n = omega arith in e c k ∙ sym (at_each f n c k))

  pub done_all : (f : ℕ → A) (i : ℕ) (old l : List A) → length old ≤ i → Done f i old l → l ≡ map f (upto (length old) 0)
  done_all f i old l h d = is_each f (length old) l d.size (λ c k. d.below c (omega arith))

  -- a store at b changes what is held there alone, and nothing where b has no place
  pub set_place : (f g : ℕ → A) (n b : ℕ) (x : A) → (b < n → x ≡ g b) → ((c : ℕ) → c < n → (c ≡ b → ⊥) → f c ≡ g c)
      → set (map f (upto n 0)) b x ≡ map g (upto n 0)
  set_place f g n b x e same =
      is_each g n (set (map f (upto n 0)) b x) (length-set (map f (upto n 0)) b x ∙ size_each f n) (λ c k. go c k (ℕ_discrete c b))
    where
      go : (c : ℕ) → c < n → Dec (c ≡ b) → get_or (set (map f (upto n 0)) b x) c z ≡ g c
      go c k (yes q) = rw q (get_or-set_same (map f (upto n 0)) b x z (omega (arith, size_each f n)) ∙ e (omega arith))
      go c k (no q) = get_or-set_other (map f (upto n 0)) b c x z q ∙ at_each f n c k ∙ same c k q

  pub set_each : (f g : ℕ → A) (n b : ℕ) (x : A) → b < n → x ≡ g b → ((c : ℕ) → (c ≡ b → ⊥) → f c ≡ g c)
      → set (map f (upto n 0)) b x ≡ map g (upto n 0)
  set_each f g n b x h e same = set_place f g n b x (λ k. e) (λ c k q. same c q)

  -- the same places and the same in each
  pub each_same : (f g : ℕ → A) (n : ℕ) → ((c : ℕ) → c < n → f c ≡ g c) → map f (upto n 0) ≡ map g (upto n 0)
  each_same f g n e = is_each g n (map f (upto n 0)) (size_each f n) (λ c h. at_each f n c h ∙ e c h)
