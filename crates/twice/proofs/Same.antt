-- Two results of one function are equal where the stores that it was given are. Assumes nothing.
use mathlib.Core.Path.{◌≡◌, ap}

-- of two stores,
pub same₂ : {A B R : Type 0} (f : A → B → R) {a a' : A} {b b' : B} {r r' : R} → r ≡ f a b → r' ≡ f a' b' → (a ≡ a') × (b ≡ b') → r ≡ r'
same₂ f e e' p = rw (e, e', p.0, p.1)

-- of three
pub same₃ : {A B C R : Type 0} (f : A → B → C → R) {a a' : A} {b b' : B} {c c' : C} {r r' : R} → r ≡ f a b c → r' ≡ f a' b' c'
    → (a ≡ a') × (b ≡ b') × (c ≡ c') → r ≡ r'
same₃ f e e' p = rw (e, e', p.0, p.1, p.2)

-- and of four
pub same₄ : {A B C D R : Type 0} (f : A → B → C → D → R) {a a' : A} {b b' : B} {c c' : C} {d d' : D} {r r' : R} → r ≡ f a b c d → r' ≡ f a' b' c' d'
    → (a ≡ a') × (b ≡ b') × (c ≡ c') × (d ≡ d') → r ≡ r'
same₄ f e e' p = rw (e, e', p.0, p.1, p.2, p.3)

-- an answer with a store that was written
pub and_store : {A B : Type 0} {r r' : A} {x x' : B} → ◌≡◌ {A = A × B} (r, x) (r', x') → (r ≡ r') × (x ≡ x')
and_store {A} {B} e = (ap (λ (z : A × B). z.0) e, ap (λ (z : A × B). z.1) e)

-- with two
pub and_stores : {A B C : Type 0} {r r' : A} {x x' : B} {y y' : C} → ◌≡◌ {A = A × B × C} (r, x, y) (r', x', y') → (r ≡ r') × (x ≡ x') × (y ≡ y')
and_stores {A} {B} {C} e = (ap (λ (z : A × B × C). z.0) e, ap (λ (z : A × B × C). z.1) e, ap (λ (z : A × B × C). z.2) e)
