-- <boolean>: a `#` word that its bytes decide.
use Prim.Native.Nat.{ℕ}
use mathlib.Core.Path.{refl}
use mathlib.Core.Bool.{Bool}
use mathlib.Core.List.{List}
use Rattle.laws.specs.Quoted.{codes}
use Rattle.laws.specs.Texts.{same}
use Rattle.chars.specs.Blank.{is_blank}
use Rattle.chars.specs.Encode.{utf8, bytes_of}
use Rattle.items.specs.Classes.{after_hash, in_hash, ends_hash, stays_hash}
use Rattle.items.specs.Readers.{bool_kind, hash_kind}
use Rattle.items.specs.Kinds as kind
use Rattle.items_r7rs.specs.Boolean.{Boolean, short_true, short_false, long_true, long_false, truth}
use Rattle.items_r7rs.specs.Delimiter.{hash_delimiters, Ends}
use Rattle.items_r7rs.specs.Reading.{nothing, ReadAs}
use Rattle.items_r7rs.proofs.Classes.{many_all}
use Rattle.items_r7rs.proofs.Hash.{hash_word}
use Rattle.items_r7rs.proofs.Reading.{read_token}

pub boolean : (report : Bool) {text : List ℕ} {b : Bool} (cs : List ℕ) → Boolean text b → Ends hash_delimiters cs
    → ReadAs report text cs kind.BooleanLiteral (truth b) nothing
unfolding is_blank after_hash in_hash ends_hash hash_kind bool_kind same bytes_of utf8
boolean report cs short_true e = read_token report _ _ cs _ _ refl refl (λ at. hash_word report at _ _ refl (many_all in_hash stays_hash (codes "t") refl) e refl)
boolean report cs short_false e = read_token report _ _ cs _ _ refl refl (λ at. hash_word report at _ _ refl (many_all in_hash stays_hash (codes "f") refl) e refl)
boolean report cs long_true e = read_token report _ _ cs _ _ refl refl (λ at. hash_word report at _ _ refl (many_all in_hash stays_hash (codes "true") refl) e refl)
boolean report cs long_false e = read_token report _ _ cs _ _ refl refl (λ at. hash_word report at _ _ refl (many_all in_hash stays_hash (codes "false") refl) e refl)
