-- Programs that meet no promise of the calls, whatever else they do: a row of specs/Read, where the definition answers otherwise, contradicts each.
use Rattle.std.specs.Prelude.{ℕ, ◌+◌, ◌≡◌, List, [], ◌++◌, get_or}
use Rattle.std.proofs.Common.{ap, sym, ◌∙◌, arith}
use Rattle.laws.specs.Quoted.{code}
use Rattle.laws.proofs.Choice.{impossible}
use Rattle.chars.specs.Encode.{utf8, bytes_of, spelled}
use Rattle.items.specs.Kinds as kind
use Rattle.items_promises.specs.Shapes.{room, words_for, bare, deep}
use Rattle.items.specs.Whole.{Answer, served, refused, Call, call}
use Rattle.items_promises.specs.Read.{plainly, rows}

-- no program that refuses everything meets the promise, whatever it says and leaves: this text is served
never_refused : (n a b : ℕ) (recs text : List ℕ) → call (refused n a b) recs text ≡ plainly (spelled "[]") (words_for 2 + 1) 0 → ⊥
never_refused n a b recs text h =
    let e : refused n a b ≡ served 2 0 = ap (λ (c : Call). c.answer) (h ∙ rows.brackets) in impossible cc

-- nor does one that leaves the records as they were
never_unwritten : (a : Answer) (text : List ℕ) → call a (room (words_for 2 + 1)) text ≡ plainly (spelled "[]") (words_for 2 + 1) 0 → ⊥
never_unwritten a text h =
    let e : 7 ≡ kind.OpenParen = ap (λ (c : Call). get_or c.records 0 0) (h ∙ rows.brackets) in omega (arith, e)

-- nor one that gives a fixed item list, or leaves the text memory as it was
never_fixed : (c : Call) → ((source : List ℕ) → c ≡ plainly source (words_for 2 + 1) 0) → ⊥
never_fixed c h =
    let e : call (served 2 0) (bare kind.OpenParen kind.Square 0 1 ++ deep 1 (bare kind.CloseParen kind.Square 1 2) ++ room 1) []
    ≡ call (served 2 0) (bare kind.OpenParen kind.Round 0 1 ++ deep 1 (bare kind.CloseParen kind.Round 1 2) ++ room 1) []
    = sym (h (spelled "[]") ∙ rows.brackets) ∙ (h (spelled "()") ∙ rows.rounds) in
    let z : kind.Square ≡ kind.Round = ap (λ (c : Call). get_or c.records 1 0) e in omega (arith, z)

never_undecoded : (a : Answer) (recs : List ℕ) → call a recs (room 2) ≡ plainly (spelled "\"\\n\"") (words_for 1) 2 → ⊥
unfolding bytes_of utf8
never_undecoded a recs h = let e : 7 ≡ code "\n" = ap (λ (c : Call). get_or c.text 0 0) (h ∙ rows.decoded) in omega (arith, e)
