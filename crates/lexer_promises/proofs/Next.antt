-- Programs that meet no promise of the calls, whatever else they do: a row of specs/Next, where the definition answers otherwise, contradicts each.
use Rattle.std.specs.Prelude.{ℕ, ◌≡◌, List, [], get_or}
use Rattle.std.proofs.Common.{ap, sym, ◌∙◌, arith}
use Rattle.laws.specs.Quoted.{code}
use Rattle.laws.proofs.Choice.{impossible}
use Rattle.chars.specs.Encode.{utf8, bytes_of, spelled}
use Rattle.items.specs.Kinds as kind
use Rattle.items_promises.specs.Shapes.{room, bare, texted}
use Rattle.lexer.specs.Answers.{Reply, item, finished, refuses, Replied, replied, next_of}
use Rattle.lexer.specs.declared.Position.{Position}
use Rattle.lexer_promises.specs.Next.{at, half, inside, rows}

-- no program that refuses everything meets the promise, nor one that says "finished" to everything
never_refused : (n a b : ℕ) (text : List ℕ) → replied (refuses n a b) text ≡ next_of (spelled "a [") (at 0) [] → ⊥
never_refused n a b text h =
    let e : refuses n a b ≡ item (texted kind.Identifier 0 1 1 0 1) (at 1) = ap (λ (r : Replied). r.reply) (h ∙ rows.first_item) in
    impossible cc

never_finished : (text : List ℕ) → replied finished text ≡ next_of (spelled "a [") (at 0) [] → ⊥
never_finished text h =
    let e : finished ≡ item (texted kind.Identifier 0 1 1 0 1) (at 1) = ap (λ (r : Replied). r.reply) (h ∙ rows.first_item) in
    impossible cc

-- nor one that refuses an item whose text just fits
never_refuses_full : (n a b : ℕ) (text : List ℕ) → replied (refuses n a b) text ≡ next_of (spelled "\"\\n\"") (at 0) (room 1) → ⊥
never_refuses_full n a b text h =
    let e : refuses n a b ≡ item (texted kind.StringLiteral 0 4 2 0 1) (at 4) = ap (λ (r : Replied). r.reply) (h ∙ rows.full) in
    impossible cc

-- nor one that writes a byte before 22
never_writes_before_22 : (r : Reply) (text : List ℕ) → replied r text ≡ next_of (spelled "\"\\n\\n\"") (at 0) (room 1) → text ≡ room 1
never_writes_before_22 r text h = ap (λ (c : Replied). c.text) (h ∙ rows.no_room)

-- nor one that leaves the text memory as it was
never_unwritten : (r : Reply) → replied r (room 2) ≡ next_of (spelled "\"\\n\"") (at 0) (room 2) → ⊥
unfolding bytes_of utf8
never_unwritten r h = let e : 7 ≡ code "\n" = ap (λ (c : Replied). get_or c.text 0 0) (h ∙ rows.decoded) in omega (arith, e)

-- the kind of an item that is given
abbrev kind_in : Reply → ℕ
kind_in (item w p) = get_or w 0 0
kind_in finished = 0
kind_in (refuses n a b) = 0

-- where its text starts, and where the last error range after it ends
abbrev start_in : Reply → ℕ
start_in (item w p) = get_or w 7 0
start_in finished = 0
start_in (refuses n a b) = 0

abbrev reach_in : Reply → ℕ
reach_in (item w p) = p.spot.last.to
reach_in finished = 0
reach_in (refuses n a b) = 0

-- nor one that does not look at the position: the first item of the source at every call
never_first : (r : Replied) → ((p : Position) → r ≡ next_of (spelled "a [") p []) → ⊥
never_first r h =
    let e : replied (item (texted kind.Identifier 0 1 1 0 1) (at 1)) [] ≡ replied (item (bare kind.OpenParen kind.Square 2 3) (inside 1 (at 3))) []
    = sym (h (at 0) ∙ rows.first_item) ∙ (h (at 1) ∙ rows.next_item) in
    let z : kind.Identifier ≡ kind.OpenParen = ap (λ (c : Replied). kind_in c.reply) e in omega (arith, z)

-- nor one that gives the plus of `+a` again where the word after it is due
never_plus_twice : (w : List ℕ) (p q : Position) (t u : List ℕ)
    → replied (item w p) t ≡ next_of (spelled "+a") (at 0) [] → replied (item w q) u ≡ next_of (spelled "+a") (half 0) [] → ⊥
never_plus_twice w p q t u first second =
    let one : start_in (item w p) ≡ 0 = ap (λ (c : Replied). start_in c.reply) (first ∙ rows.plus) in
    let two : start_in (item w q) ≡ 1 = ap (λ (c : Replied). start_in c.reply) (second ∙ rows.after_plus) in
    omega (arith, one, two)

-- nor one that forgets an error's range
never_rangeless : (w : List ℕ) (p : Position) (t : List ℕ) → p.spot.last.to ≡ 0 → replied (item w p) t ≡ next_of (spelled "#\\ab") (at 0) [] → ⊥
never_rangeless w p t none h = omega (arith, none, ap (λ (c : Replied). reach_in c.reply) (h ∙ rows.ranged))
