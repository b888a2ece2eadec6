-- What stands behind a number, a name, a boolean and a character (specs/Follows): the character at which the run or the word was ended (`Follows`). Of
-- what starts with `#` that may be a mark of its own, which neither a boolean nor a character has.
use Rattle.std.proofs.Common.{Ok, Err, Result}
use Prim.Native.Nat.{ℕ, ◌+◌, ◌-◌, ◌<◌}
use mathlib.Core.Path.{◌≡◌, refl, sym, ap, subst, ◌∙◌}
use mathlib.Core.Bool.{Bool, true, false, ◌&&◌}
use mathlib.Core.List.{List, [], ◌∷◌, ◌++◌, map}
use mathlib.Core.Logic.{◌⊎◌, inl, inr}
use lib.ListN.{length, get_or}
use lib.Dec.{eqb, ltb}
use native.Mathlib.Omega.{arith}
use borrow.Author.Tests.{eqb-true, eq-eqb, ne_eqb, ltb-true}
use Rattle.laws.specs.Letters.{lower}
use Rattle.laws.specs.Quoted.{code, codes, one_of, within}
use Rattle.laws.specs.Texts.{begins}
use Rattle.laws.proofs.Choice.{by_bool, no_yes, if_all, if_is}
use Rattle.chars.specs.Encode.{utf8, bytes_of, spelled}
use Rattle.numbers.specs.Grammar.{parse_number, Parsed}
use Rattle.numbers.specs.declared.ParseError.TheVariants as parsed
use Rattle.items.specs.Classes.{breaks_word, ends_run, ends_hash}
use Rattle.items.specs.Kinds as kind
use Rattle.items.specs.declared.Outcome.{Outcome}
use Rattle.items.specs.declared.Outcome.TheVariants.{Token, Str, HereStr, Word, Run, Lined, Keyword, Character, Error, ErrorAt}
use Rattle.items.specs.declared.CharError.{CharError}
use Rattle.items.specs.declared.CharError.TheVariants.{Wrong, WrongAt}
use Rattle.items.specs.Items.{Item, items}
use Rattle.items.specs.Meaning.{Text, Meaning, means, word_kind, word_means, run_means, character_of, char_inside, character_means, meaning_of}
use Rattle.items.specs.Readers.{Read, first_is}
use Rattle.items.proofs.Every.{Every}
use Rattle.items_numbers.proofs.Comes.{read_comes}
use Rattle.items_numbers.proofs.Spelled.{Spelled, spelled_kinds, spelled_kind, Comes}
use Rattle.items_numbers.proofs.Spelled as comes
use Rattle.items_r7rs.specs.Character.{CharacterName, named_alarm, named_backspace, named_delete, named_escape, named_newline}
use Rattle.items_r7rs.specs.Character.{named_null, named_return, named_space, named_tab, CharacterText, any, by_name, by_hex}
use Rattle.items_r7rs.specs.Converse.{SignedScalar, unsigned, after_plus, ForeignCharacter}
use Rattle.items_r7rs.specs.Converse as foreign
use Rattle.items_r7rs.specs.Repeated.{Many, done, more}
use Rattle.items_r7rs.proofs.Back.{begins_chars, last_of}
use Rattle.items_r7rs.proofs.Bytes.{utf8_low}
use Rattle.items_r7rs.proofs.Classes.{at_one_of}
use Rattle.items_r7rs.proofs.Hex.{Hexadecimal, a_digit, at_digit, scalar_digits}
use Rattle.items_r7rs.proofs.OnlyCharacters.{Spells, spells}
use Rattle.items_r7rs_words.specs.Words.{own_kinds}
use Rattle.items_r7rs_words.specs.Follows.{Behind, at_end, before, EndsNumber, EndsName, EndsHash, NumberBefore, name_kinds, NameBefore, hash_kinds, HashBefore}
use Rattle.items_r7rs_words.specs.Follows as may
use Rattle.items_r7rs_words.proofs.Follows.{RunEnd, EndedBy, Follows, follows}
use Rattle.items_r7rs_words.proofs.Hashes.{Marked, HashEnd}
use Rattle.items_r7rs_words.proofs.Readings.{every_in, OneRead, of_reads}
use Rattle.items_r7rs_words.proofs.Words.{none, error_not, word_own}

-- what holds of each of some characters holds of one of them
pub each_of : (P : ℕ → Type 0) (ks : List ℕ) → Every P ks → (c : ℕ) → one_of ks c ≡ true → P c
each_of P [] h c e = no_yes e
each_of P (k ∷ ks) h c e = by_bool (eqb c k) (λ f. subst P (sym (eqb-true c k f)) h.0) (λ f. each_of P ks h.1 c (rw f at e))

run_end : (report : Bool) (c : ℕ) → RunEnd report c → EndsNumber report c
unfolding ends_run
run_end report c (inl e) = by_bool (one_of (codes "()[]") c)
    (λ f. each_of (EndsNumber report) (codes "()[]") (round report, (other report, (may.EndsNumber.square refl, (may.EndsNumber.square refl, tt)))) c f)
    (λ f. by_bool (one_of (codes ";\"") c)
    (λ g. let z : report ≡ true = rw (f, g) at e in
    subst (λ (r : Bool). EndsNumber r c) (sym z) (each_of (EndsNumber true) (codes ";\"") (may.EndsNumber.delimiter refl, (may.EndsNumber.delimiter refl, tt)) c g))
    (λ g. may.EndsNumber.blank (rw (f, g) at e)))
  where
    round : (r : Bool) → EndsNumber r (code "(")
    round true = may.EndsNumber.delimiter refl
    round false = may.EndsNumber.delimiter refl

    other : (r : Bool) → EndsNumber r (code ")")
    other true = may.EndsNumber.delimiter refl
    other false = may.EndsNumber.delimiter refl
run_end report c (inr e) =
    subst (λ (r : Bool). EndsNumber r c) (sym e.0) (subst (EndsNumber true) (sym e.1) (may.EndsNumber.delimiter refl))

word_end : (c : ℕ) → breaks_word c ≡ true → EndsName c
unfolding breaks_word
word_end c e = by_bool (one_of (codes "([)]{}'\"`;,") c)
    (λ f. each_of EndsName (codes "([)]{}'\"`;,") (
      may.EndsName.delimiter refl,
      (
        may.EndsName.reserved refl,
        (
          may.EndsName.delimiter refl,
          (
            may.EndsName.reserved refl,
            (
              may.EndsName.reserved refl,
              (
                may.EndsName.reserved refl,
                (
                  may.EndsName.mark refl,
                  (
                    may.EndsName.delimiter refl,
                    (
                      may.EndsName.mark refl,
                      (
                        may.EndsName.delimiter refl,
                        (may.EndsName.mark refl, tt),
                      ),
                    ),
                  ),
                ),
              ),
            ),
          ),
        ),
      ),
    ) c f)
    (λ f. may.EndsName.blank (rw f at e))

-- ---- of an item of kind k, whose extent's bytes are raw, before rest

abbrev EndsEither : Bool → ℕ → Type 0
EndsEither report c = EndsName c ⊎ EndsNumber report c

-- what ends a word that starts with `#`
hash_end : (c : ℕ) → ends_hash c ≡ true → EndsHash c
unfolding ends_hash
hash_end c e = by_bool (one_of (codes "([)]") c)
    (λ f. each_of EndsHash (codes "([)]") (may.EndsNumber.delimiter refl, (may.EndsNumber.square refl, (may.EndsNumber.delimiter refl, (may.EndsNumber.square refl, tt)))) c f)
    (λ f. may.EndsNumber.blank (rw f at e))

-- ---- neither a boolean nor a character ends in a mark

abbrev marks : List ℕ
marks = codes "'`,@"

spelled_unmarked : {raw : List ℕ} {k d : ℕ} → Spelled raw k d → eqb k kind.BooleanLiteral ≡ true → one_of marks (get_or raw (length raw - 1) 0) ≡ false
unfolding bytes_of utf8
spelled_unmarked comes.open_round e = no_yes e
spelled_unmarked comes.open_square_case e = no_yes e
spelled_unmarked comes.open_curly_case e = no_yes e
spelled_unmarked comes.open_vector_case e = no_yes e
spelled_unmarked comes.open_bytes_case e = no_yes e
spelled_unmarked comes.close_round e = no_yes e
spelled_unmarked comes.close_square_case e = no_yes e
spelled_unmarked comes.close_curly_case e = no_yes e
spelled_unmarked comes.quote_tick e = no_yes e
spelled_unmarked comes.quasi_quote e = no_yes e
spelled_unmarked comes.unquote e = no_yes e
spelled_unmarked comes.unquote_splice e = no_yes e
spelled_unmarked comes.quote_syntax e = no_yes e
spelled_unmarked comes.quasi_quote_syntax e = no_yes e
spelled_unmarked comes.unquote_syntax e = no_yes e
spelled_unmarked comes.unquote_splice_syntax e = no_yes e
spelled_unmarked comes.datum_comment e = no_yes e
spelled_unmarked comes.long_true e = refl
spelled_unmarked comes.short_true e = refl
spelled_unmarked comes.long_false e = refl
spelled_unmarked comes.short_false e = refl

-- the last of some characters, of which b is the one before
abbrev pub last_or : ℕ → List ℕ → ℕ
last_or b [] = b
last_or b (c ∷ t) = last_or c t

pub last_of_two : (b : ℕ) (w : List ℕ) (c : ℕ) (t : List ℕ) → last_or b (w ++ (c ∷ t)) ≡ last_or c t
last_of_two b [] c t = refl
last_of_two b (x ∷ w) c t = last_of_two x w c t

hex_unmarked : (b : ℕ) {h : List ℕ} → Many Hexadecimal h → one_of marks b ≡ false → one_of marks (last_or b h) ≡ false
hex_unmarked b done e = e
hex_unmarked b (more {c = c} (a_digit d) m) e = hex_unmarked c m (at_digit (one_of marks) false refl refl refl c d)

signed_unmarked : (b : ℕ) {h : List ℕ} {c : ℕ} → SignedScalar h c → one_of marks b ≡ false → one_of marks (last_or b h) ≡ false
signed_unmarked b (unsigned s) e = hex_unmarked b (scalar_digits s) e
signed_unmarked b (after_plus s) e = hex_unmarked (code "+") (scalar_digits s) refl

name_unmarked : {n : List ℕ} {c : ℕ} → CharacterName n c → (b : ℕ) → one_of marks (last_or b n) ≡ false
name_unmarked named_alarm b = refl
name_unmarked named_backspace b = refl
name_unmarked named_delete b = refl
name_unmarked named_escape b = refl
name_unmarked named_newline b = refl
name_unmarked named_null b = refl
name_unmarked named_return b = refl
name_unmarked named_space b = refl
name_unmarked named_tab b = refl

-- a mark is no letter
lowered_mark : (b : ℕ) (t : List ℕ) → one_of marks (last_or b t) ≡ true → one_of marks (last_or (lower b) (map lower t)) ≡ true
unfolding lower within
lowered_mark b [] h = at_one_of (λ k. one_of marks (lower k)) true marks b refl h
lowered_mark b (c ∷ t) h = lowered_mark c t h

-- longer than `#\\` and one byte
abbrev Long : List ℕ → Type 0
Long t = 3 < length (bytes_of t)

standard_unmarked : {t : List ℕ} {c : ℕ} → CharacterText t c → Long t → one_of marks (last_or 0 t) ≡ true → ⊥
unfolding bytes_of utf8
standard_unmarked (any {c = c} s) l h =
    let low : utf8 c ≡ c ∷ [] = utf8_low c (at_one_of (λ k. ltb k 0x80) true marks c refl h) in
    let n : length (bytes_of (code "#" ∷ code "\\" ∷ c ∷ [])) ≡ 3 = ap (λ (b : List ℕ). length (code "#" ∷ code "\\" ∷ b ++ [])) low in
    omega (arith, n, l)
standard_unmarked (by_name n) l h = no_yes (sym (name_unmarked n (code "\\")) ∙ h)
standard_unmarked (by_hex s) l h = no_yes (sym (hex_unmarked (code "x") (scalar_digits s) refl) ∙ h)

foreign_unmarked : {t : List ℕ} {c : ℕ} → ForeignCharacter t c → one_of marks (last_or 0 t) ≡ true → ⊥
unfolding lower within
foreign_unmarked (foreign.other_case {t = t} n e) h =
    no_yes (sym (name_unmarked n (code "\\")) ∙ ap (λ (l : List ℕ). one_of marks (last_or (code "\\") l)) (sym e) ∙ lowered_mark (code "\\") t h)
foreign_unmarked (foreign.ForeignCharacter.unicode s) h = no_yes (sym (signed_unmarked (code "u") s refl) ∙ h)
foreign_unmarked (foreign.braced t s) h = no_yes (sym (ap (one_of marks) (last_of_two (code "{") t (code "}") [])) ∙ h)
foreign_unmarked (foreign.ForeignCharacter.plus s) h = no_yes (sym (hex_unmarked (code "+") (scalar_digits s) refl) ∙ h)

-- a mark at the end of the bytes is one at the end of the characters
last_mark : (t : List ℕ) → one_of marks (get_or (bytes_of t) (length (bytes_of t) - 1) 0) ≡ true → one_of marks (last_or 0 t) ≡ true
last_mark t h =
    let b : ℕ = get_or (bytes_of t) (length (bytes_of t) - 1) 0 in
    let r = last_of b (ltb-true b 0x80 (at_one_of (λ k. ltb k 0x80) true marks b refl h)) (at_one_of (λ k. eqb 0 k) false marks b refl h) t (eq-eqb b b refl) in
    ap (one_of marks) (ap (last_or 0) r.1 ∙ last_of_two 0 r.0 b []) ∙ h

character_unmarked : (report : Bool) (t : List ℕ) (c : ℕ) → begins (spelled "#\\") (bytes_of t) ≡ true → character_of report (char_inside (bytes_of t)) ≡ Ok c
    → Marked (bytes_of t) → ⊥
unfolding bytes_of utf8
character_unmarked report t c f h m =
    let q = begins_chars (codes "#\\") t refl f in
    let z : Spells (bytes_of q.0) c = spells c report q.0 (ap (λ (l : List ℕ). character_of report (char_inside (bytes_of l))) (sym q.1) ∙ h) in
    let w : List ℕ = code "#" ∷ code "\\" ∷ z.chars in
    let same : bytes_of t ≡ bytes_of w = ap bytes_of q.1 ∙ ap (λ (l : List ℕ). code "#" ∷ code "\\" ∷ l) z.bytes in
    go w (subst (λ (l : List ℕ). 3 < length l) same (m.2 f)) (last_mark w (subst (λ (l : List ℕ). one_of marks (get_or l (length l - 1) 0) ≡ true) same m.0)) z.is
  where
    go : (w : List ℕ) → Long w → one_of marks (last_or 0 w) ≡ true → CharacterText w c ⊎ ForeignCharacter w c → ⊥
    go w l k (inl s) = standard_unmarked s l k
    go w l k (inr s) = foreign_unmarked s k

-- ---- what one extent means

record Before (report : Bool) (raw rest : List ℕ) (m : Meaning) : Type 0 where
  number : eqb m.kind kind.Number ≡ true → Behind (EndsNumber report) rest
  name : one_of name_kinds m.kind ≡ true → first_is (code "+") raw ≡ false → first_is (code "|") raw ≡ false → Behind (EndsEither report) rest
  hashed : one_of hash_kinds m.kind ≡ true → Behind EndsHash rest

-- a kind that is none of them
record Apart (k : ℕ) : Type 0 where
  number : eqb k kind.Number ≡ false
  name : one_of name_kinds k ≡ false
  hashed : one_of hash_kinds k ≡ false

module _ (report : Bool) (t rest : List ℕ) where
  abbrev raw : List ℕ
  raw = bytes_of t

  apart : (k d : ℕ) (x : Text) → Apart k → Before report raw rest (means k d x)
  apart k d x a = record { number = λ e. none a.number e; name = λ e. none a.name e; hashed = λ e. none a.hashed e }

  error_apart : (n : ℕ) → Apart (kind.first_error + n)
  error_apart n = record { number = ne_eqb (kind.first_error + n) kind.Number (λ e. omega arith); name = error_not name_kinds n refl; hashed = error_not hash_kinds n refl }

  -- nothing behind it, or what ended it
  ended_by : (May : ℕ → Type 0) (o : Outcome) → ((c : ℕ) → EndedBy report raw o c → May c) → Follows report raw o rest → Behind May rest
  ended_by May o f h = go rest h
    where
      go : (rest : List ℕ) → Follows report raw o rest → Behind May rest
      go [] h = at_end
      go (c ∷ cs) h = before (f c h)

  word_ended : first_is (code "+") raw ≡ false → Follows report raw Word rest → Behind (EndsEither report) rest
  word_ended n h = ended_by (EndsEither report) Word so h
    where
      so : (c : ℕ) → EndedBy report raw Word c → EndsEither report c
      so c (inl e) = inl (word_end c e)
      so c (inr e) = none n e

  -- of a word that starts with `#` and ends in no mark
  hash_ended : (o : Outcome) → ((c : ℕ) → EndedBy report raw o c → HashEnd raw c) → (Marked raw → ⊥) → Follows report raw o rest → Behind EndsHash rest
  hash_ended o f n h = ended_by EndsHash o (λ c e. so c (f c e)) h
    where
      so : (c : ℕ) → HashEnd raw c → EndsHash c
      so c (inl e) = hash_end c e
      so c (inr m) = absurd (n m)

  module _ (s e : ℕ) where
    abbrev There : List Meaning → Type 0
    There ms = Every (Before report raw rest) ms

    named : (k : ℕ) (x : Text) → one_of name_kinds k ≡ true → (first_is (code "+") raw ≡ false → first_is (code "|") raw ≡ false → Behind (EndsEither report) rest)
        → Before report raw rest (means k 0 x)
    named k x h b = record {
      number = λ g. none (at_one_of (λ n. eqb n kind.Number) false name_kinds k refl h) g;
      name = λ g p q. b p q;
      hashed = λ g. none (at_one_of (one_of hash_kinds) false name_kinds k refl h) g;
    }

    own_name : (k : ℕ) → one_of own_kinds k ≡ true → one_of name_kinds k ≡ true
    own_name k h = at_one_of (one_of name_kinds) true own_kinds k refl h

    word_there : (first_is (code "+") raw ≡ false → first_is (code "|") raw ≡ false → Behind (EndsEither report) rest) → There (word_means s e raw)
    unfolding word_means
    word_there b =
        if_is There (eqb (word_kind raw) kind.Identifier)
        (λ _. if_all There (first_is (code "+") raw && ltb 1 (length raw)) (named kind.Identifier _ refl b, (named kind.Identifier _ refl b, tt)) (named kind.Identifier _ refl b, tt))
        (λ f. (named (word_kind raw) _ (own_name (word_kind raw) (word_own raw f)) b, tt))

    run_there : (p : Parsed) → Follows report raw Run rest → There (run_means p s e raw)
    unfolding run_means
    run_there (Ok p) h =
        (record { number = λ _. ended_by (EndsNumber report) Run (run_end report) h; name = λ g. no_yes g; hashed = λ g. no_yes g }, tt)
    run_there (Err parsed.NoNumber) h = word_there (λ _ _. ended_by (EndsEither report) Run (λ c f. inr (run_end report c f)) h)
    run_there (Err parsed.ZeroDenominator) h = (apart _ 0 _ (error_apart kind.ZeroDenominator), tt)

    character_there : begins (spelled "#\\") raw ≡ true → Follows report raw Character rest → (v : Result ℕ CharError) → character_of report (char_inside raw) ≡ v
        → There (character_means v)
    character_there b f (Ok c) h =
        (record { number = λ g. no_yes g; name = λ g. no_yes g; hashed = λ _. hash_ended Character (λ c k. k) (character_unmarked report t c b h) f }, tt)
    character_there b f (Err (Wrong n d)) h = (apart _ d _ (error_apart n), tt)
    character_there b f (Err (WrongAt n d p)) h = (apart _ d _ (error_apart n), tt)

    token_there : (k d : ℕ) → Spelled raw k d → Follows report raw (Token k d) rest → Before report raw rest (means k d Text.none)
    token_there k d h f =
        let kinds : one_of spelled_kinds k ≡ true = spelled_kind h in
        record {
          number = λ g. none (at_one_of (λ n. eqb n kind.Number) false spelled_kinds k refl kinds) g;
          name = λ g. none (at_one_of (one_of name_kinds) false spelled_kinds k refl kinds) g;
          hashed = λ g. let is : eqb k kind.BooleanLiteral ≡ true = boolean_kind k kinds g in
              hash_ended (Token k d) (λ c z. z is) (λ m. no_yes (sym (spelled_unmarked h is) ∙ m.0)) f;
        }
      where
        boolean_kind : (k : ℕ) → one_of spelled_kinds k ≡ true → one_of hash_kinds k ≡ true → eqb k kind.BooleanLiteral ≡ true
        boolean_kind k s g =
            by_bool (eqb k kind.BooleanLiteral) (λ e. e)
            (λ e. by_bool (eqb k kind.CharacterLiteral)
            (λ f. none (at_one_of (λ n. eqb n kind.CharacterLiteral) false spelled_kinds k refl s) f)
            (λ f. no_yes (rw (e, f) at g)))

    before_there : (o : Outcome) → Comes raw o → Follows report raw o rest → There (meaning_of report o s e raw)
    before_there (Token k d) (comes.token h) f = (token_there k d h f, tt)
    before_there (Token k d) comes.comment f = (apart kind.Comment 0 _ (record { number = refl; name = refl; hashed = refl }), tt)
    before_there Str h f = (apart kind.StringLiteral 0 _ (record { number = refl; name = refl; hashed = refl }), tt)
    before_there HereStr h f = (apart kind.StringLiteral 0 _ (record { number = refl; name = refl; hashed = refl }), tt)
    before_there Word h f = word_there (λ p _. word_ended p f)
    before_there Run h f = run_there (parse_number raw) f
    before_there Lined h f = (named kind.Identifier _ refl (λ _ q. ended_by (EndsEither report) Lined (λ c k. none q k) f), tt)
    before_there Keyword h f = (apart kind.Keyword 0 _ (record { number = refl; name = refl; hashed = refl }), tt)
    before_there Character (comes.character b l) f = character_there b f (character_of report (char_inside raw)) refl
    before_there (Error n d) h f = (apart _ d _ (error_apart n), tt)
    before_there (ErrorAt n d a z) h f = (apart _ d _ (error_apart n), tt)

-- ---- every item

stands_before : {report : Bool} {whole : List ℕ} {i : Item} (z : OneRead report whole i)
    → Before report (bytes_of (z.first ∷ z.more)) z.rest (means i.kind i.detail i.text)
stands_before {report} {whole} {i} z =
    let at : ℕ = i.start in
    let t : List ℕ = z.first ∷ z.more in
    let cs : List ℕ = z.more ++ z.rest in
    every_in (Before report (bytes_of t) z.rest)
    (before_there report t z.rest at i.end z.what
    (subst (λ (r : Read). Comes r.item.bytes r.what) z.read (read_comes report at z.first cs))
    (subst (λ (r : Read). Follows report r.item.bytes r.what r.rest) z.read (follows report at z.first cs)))
    z.meant

-- of the items of a text, in both modes
module _ (report : Bool) (cs : List ℕ) where
  pub number_ended : Every (NumberBefore report (bytes_of cs)) (items report cs)
  number_ended = of_reads report cs (NumberBefore report (bytes_of cs)) (λ i z e. (z.rest, z.left, (stands_before z).number e))

  pub name_ended : Every (NameBefore report (bytes_of cs)) (items report cs)
  name_ended = of_reads report cs (NameBefore report (bytes_of cs))
      (λ i z e p q. (z.rest, z.left, (stands_before z).name e (ap (first_is (code "+")) (sym z.bytes) ∙ p) (ap (first_is (code "|")) (sym z.bytes) ∙ q)))

  pub boolean_character_ended : Every (HashBefore (bytes_of cs)) (items report cs)
  boolean_character_ended = of_reads report cs (HashBefore (bytes_of cs)) (λ i z e. (z.rest, z.left, (stands_before z).hashed e))
