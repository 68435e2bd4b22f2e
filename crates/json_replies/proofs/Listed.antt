-- Lists that are mapped.
use Rattle.std.proofs.Common.{◌≡◌, List, [], ◌∷◌, map, refl, ap}

-- a list mapped by one function and then by another is mapped by both, one after another
pub map_twice : {A B C : Type 0} (g : B → C) (f : A → B) (items : List A) → map g (map f items) ≡ map (λ (a : A). g (f a)) items
map_twice g f [] = refl
map_twice g f (item ∷ items) = ap (λ cs. g (f item) ∷ cs) (map_twice g f items)
