-- A preference as the rules speak of it.
use Rattle.std.specs.Prelude.{ℕ, Bool, List}
use Rattle.history.specs.declared.event.Event.{Event}
use Rattle.history.specs.Preferences.{Lawful}
use Rattle.order.specs.Calls.{Preference}

-- What a value of a type of preferences means, with the laws that its type owes.
abbrev pub as_preference : {P : Type 0} (prefers : P → ℕ → Event → ℕ → Event → Bool) → ((p : P) (es : List Event) → Lawful (prefers p) es) → P → Preference
as_preference prefers lawful p = record { prefers = prefers p; lawful = lawful p }
