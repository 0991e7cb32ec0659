-- A property of a choice, with what the test says on each side.
use mathlib.Core.Path.{◌≡◌, refl}
use mathlib.Core.Bool.{Bool, true, false, cond}

pub cond_elim : {X : Type 0} (P : X → Type 0) (t : Bool) {a b : X} → (t ≡ true → P a) → (t ≡ false → P b) → P (cond t a b)
cond_elim P true f g = f refl
cond_elim P false f g = g refl
