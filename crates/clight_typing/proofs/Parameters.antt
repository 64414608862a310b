-- Parameters by their names and types.
use Rattle.std.proofs.Common.{◌≡◌, ℕ, suc, List, [], ◌∷◌, map, refl, ap}
use Rattle.clight_source.specs.Trees.{Declared}
use Rattle.c_types.specs.Types.{StructType}
use Rattle.clight_types.specs.Declarations.{declared_type}
use Rattle.clight_typing.specs.Functions.{Own, object, parameter_own, with_parameters}
use Rattle.clight_typing.specs.Code.HeldFile.{with_owns}
use Rattle.clight_types.specs.Scopes.{Meanings, declare}

pub own_types : (structs : List StructType) (xs : List Declared) → map (λ (own : Own). own.type) (map (parameter_own structs) xs) ≡ map (declared_type structs) xs
own_types structs [] = refl
own_types structs (x ∷ rest) = ap (λ ts. declared_type structs x ∷ ts) (own_types structs rest)

pub owns_are : (structs : List StructType) (variable : ℕ) (xs : List Declared) (names : Meanings) →
    with_owns variable (map (parameter_own structs) xs) names ≡ with_parameters structs variable xs names
owns_are structs variable [] names = refl
owns_are structs variable (x ∷ rest) names = owns_are structs (suc variable) rest (declare (object x.name variable (declared_type structs x)) names)
