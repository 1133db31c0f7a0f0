-- The commands of a script by their names.
-- Assumes nothing.
use Rattle.std.specs.Prelude.{ℕ, List, [], ◌∷◌}
use Rattle.octets.specs.If.{ifb}
use Rattle.octets.specs.Octets.{same}
use Rattle.hex_digits.specs.Texts.{codes}
use Rattle.script_verbs.specs.declared.Verb.{Verb}
use Rattle.script_verbs.specs.declared.Verb.TheVariants.{Blank, Put, Clock, Room, Strip, Size, Request, Table, Output, Undo, Second, Unknown}

-- a command and its name
pub record Named : Type 0 where
  pub name : List ℕ
  pub verb : Verb

abbrev pub verbs : List Named
verbs = record { name = codes "blank"; verb = Blank }
    ∷ record { name = codes "put"; verb = Put }
    ∷ record { name = codes "clock"; verb = Clock }
    ∷ record { name = codes "room"; verb = Room }
    ∷ record { name = codes "strip"; verb = Strip }
    ∷ record { name = codes "size"; verb = Size }
    ∷ record { name = codes "request"; verb = Request }
    ∷ record { name = codes "table"; verb = Table }
    ∷ record { name = codes "output"; verb = Output }
    ∷ record { name = codes "undo"; verb = Undo }
    ∷ record { name = codes "second"; verb = Second }
    ∷ []

-- the first command of a list with this name
abbrev pub named : List ℕ → List Named → Verb
named word [] = Unknown
named word (n ∷ rest) = ifb (same word n.name) n.verb (named word rest)

unfoldable pub verb_of : List ℕ → Verb
verb_of word = named word verbs
