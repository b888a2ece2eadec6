-- An item of kind Number has its extent's bytes read as a number: no other item has that kind, and those bytes have parts. They are whole characters
-- and no more than the text has, so that the call refuses nothing.
use Rattle.std.proofs.Common.{None, Ok}
use Rattle.refusal.specs.Refusals.{limit}
use Rattle.items.specs.Items.{Item, items}
use Rattle.items.specs.Kinds as kind
use Rattle.items.specs.Meaning.{none, Meaning}
use Rattle.items.proofs.Every.{Every, every_then}
use Rattle.numbers.specs.declared.Parts.{Parts}
use Rattle.numbers.specs.Call.{parts, number}
use Rattle.numbers.specs.Grammar.{parse_number}
use Rattle.chars.specs.Encode.{is_scalar, bytes_of}
use Rattle.chars.specs.Utf8.{first_bad}
use Rattle.chars.proofs.Good.{Scalars, encoded_good}
use Rattle.items_numbers.specs.Parts.{between, HasParts}
use Rattle.items_numbers.proofs.Spelled.{spelled_kinds, spelled_kind}
use Rattle.items_numbers.proofs.Stands.{Meant, token, string, here_string, character, word, error, word_kinds, other, none_of, no_error_holds, Stands, items_stand}
use Rattle.items_numbers.proofs.Stands as meant
use Prim.Native.Nat.{ℕ, ◌-◌, ◌≤◌}
use mathlib.Core.Path.{◌≡◌, refl, ap, ◌∙◌}
use mathlib.Core.Bool.{Bool, true}
use mathlib.Core.List.{List, [], ◌∷◌}
use lib.ListN.{length, drop, length-take, length-drop}
use lib.Dec.{eqb}
use native.Mathlib.Omega.{arith}
use borrow.Author.Tests.{le-ltb}

-- a meaning of kind Number has no text, and its bytes have parts
pub number_meant : {report : Bool} {s e : ℕ} {t : List ℕ} {m : Meaning} → Meant report s e t m → eqb m.kind kind.Number ≡ true
    → (m.text ≡ none) × ((p : Parts) × (parse_number (bytes_of t) ≡ Ok p))
number_meant (token {k = n} h) k = none_of spelled_kinds n kind.Number refl (spelled_kind h) k
number_meant (string h r) k = other refl k
number_meant (here_string h) k = other refl k
number_meant (character f g h) k = other refl k
number_meant (meant.number p h) k = (refl, (p, h))
number_meant (word {k = n} h) k = none_of word_kinds n kind.Number refl h k
number_meant (error n d) k = no_error_holds n kind.Number (omega arith) k

-- in a text, an item of kind Number: it has no text of its own, and the number call on its extent gives parts
abbrev pub NumberIn : List ℕ → Item → Type 0
NumberIn whole i = eqb i.kind kind.Number ≡ true → (i.text ≡ none) × HasParts (between i.start i.end whole)

number_is : (raw : List ℕ) (p : Parts) → length raw ≤ limit → first_bad raw ≡ None → parse_number raw ≡ Ok p → number raw ≡ parts p
unfolding number
number_is raw p short good is = rw (le-ltb limit (length raw) short, good, is)

abbrev AScalar : ℕ → Type 0
AScalar c = is_scalar c ≡ true

scalars_of : (t : List ℕ) → Every AScalar t → Scalars t
scalars_of [] h = tt
scalars_of (c ∷ t) h = (h.0, scalars_of t h.1)

every_scalar : (cs : List ℕ) → Scalars cs → Every AScalar cs
every_scalar [] h = tt
every_scalar (c ∷ cs) h = (h.0, every_scalar cs h.1)

number_stands : (report : Bool) (whole : List ℕ) → length whole ≤ limit → (i : Item) → Stands report AScalar whole i → NumberIn whole i
number_stands report whole short i z k =
    let f = number_meant z.meant k in
    let raw : List ℕ = bytes_of z.chars in
    let room : length raw ≤ limit
    = omega (arith, ap length z.bytes, length-take (i.end - i.start) (drop i.start whole), length-drop i.start whole) in
    (f.0, (f.1.0, ap number z.bytes ∙ number_is raw f.1.0 room (encoded_good z.chars (scalars_of z.chars z.known)) f.1.1))

-- of the items of a text
pub number_items : (report : Bool) (cs : List ℕ) → Scalars cs → length (bytes_of cs) ≤ limit → Every (NumberIn (bytes_of cs)) (items report cs)
number_items report cs z short =
    every_then (Stands report AScalar (bytes_of cs)) (NumberIn (bytes_of cs)) (number_stands report (bytes_of cs) short) (items report cs)
    (items_stand report AScalar cs (every_scalar cs z))
