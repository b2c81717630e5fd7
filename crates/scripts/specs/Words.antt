-- What words of a script stand for.
use Rattle.std.specs.Prelude.{ℕ, List, ◌≡◌, ◌↔◌, Result, Ok, codes}
use Rattle.scripts.specs.declared.pile.Name.{Name}
use Rattle.scripts.specs.declared.pile.Name.TheVariants.{A, B}
use Rattle.scripts.specs.declared.trouble.Unfit.{Unfit}

-- The word `a` gives the one name and `b` the other, and no other word gives a name.
abbrev pub IsNamed : List ℕ → Result Name Unfit → Type 0
IsNamed word r = ((word ≡ codes "a") ↔ (r ≡ Ok A)) × ((word ≡ codes "b") ↔ (r ≡ Ok B))
