-- An item of kind CharacterLiteral: what its bytes after `#\\` spell. A name, in whatever case; `u` or `x` and digits; or one character.
use Prim.Native.Nat.{ℕ, suc, ◌+◌, ◌-◌, ◌<◌}
use mathlib.Core.Path.{◌≡◌, refl, sym, ap, subst, ◌∙◌}
use mathlib.Core.Bool.{Bool, true, false, ◌&&◌, ◌||◌}
use mathlib.Core.List.{List, [], ◌∷◌, ◌++◌, map, append-nil}
use mathlib.Core.Logic.{◌⊎◌, inl, inr}
use lib.ListN.{length, get_or, take, drop, length-append}
use lib.Seq.{take_all, take_at}
use lib.Dec.{eqb, leb, ltb}
use native.Mathlib.Omega.{arith}
use borrow.Author.Tests.{eqb-true, leb-true, lt-ltb, ltb-true}
use Rattle.std.specs.Prelude.{if◌then◌else◌, Err, Ok, Result}
use Rattle.laws.specs.Quoted.{codes, code, within}
use Rattle.laws.specs.Texts.{same}
use Rattle.laws.proofs.Choice.{by_bool, and_true}
use Rattle.laws.proofs.Compared.{same_is}
use Rattle.chars.specs.Encode.{is_scalar, utf8, bytes_of}
use Rattle.chars.specs.Utf8.{Front, char, bad, cut, none, front, placed}
use Rattle.chars.proofs.Bytes.{bytes_append}
use Rattle.chars.proofs.Chars.{CharAt, char_at}
use Rattle.items_coverage.proofs.Bytes.{first_char}
use Rattle.digits.specs.Hex.{hex_value}
use Rattle.laws.specs.Letters.{lower}
use Rattle.items.specs.declared.CharError.{CharError}
use Rattle.items.specs.declared.CharError.TheVariants.{Wrong, WrongAt}
use Rattle.items.specs.Items.{Item, items}
use Rattle.items.specs.Kinds as kind
use Rattle.items.specs.Meaning.{Meaning, Row, lookup, char_names, unnamed, before_delimiter, nameless, only_one, later, hex_named, spelled_out, character_of, char_inside}
use Rattle.items.specs.Meaning as meaning
use Rattle.items.specs.Readers.{first_is, last_is, scalar_of}
use Rattle.items.proofs.Every.{Every}
use Rattle.items_numbers.proofs.Spelled.{spelled_kinds, spelled_kind}
use Rattle.items_numbers.proofs.Stands.{Meant, token, string, here_string, character, number, word, error, word_kinds, other, none_of, no_error_holds}
use Rattle.items_r7rs.specs.Character.{CharacterName, named_alarm, named_backspace, named_delete, named_escape, named_newline}
use Rattle.items_r7rs.specs.Character.{named_null, named_return, named_space, named_tab, CharacterText, any, by_name, by_hex}
use Rattle.items_r7rs.specs.Converse.{ForeignCharacter, SignedScalar, unsigned, after_plus, CharacterIn}
use Rattle.items_r7rs.specs.Converse as foreign
use Rattle.items_r7rs.specs.Repeated.{Many, done, more}
use Rattle.items_r7rs.proofs.Back.{begins_chars, last_behind, last_of, Low, low_chars, is_value, char_or, hex_back}
use Rattle.items_r7rs.proofs.Bytes.{bytes_ascii, bytes_some}
use Rattle.items_r7rs.proofs.Classes.{many_all}
use Rattle.items_r7rs.proofs.Converse.{AnItem, of_items}

-- some characters, `#\\` before them, that have these bytes and are a <character> or a foreign one
pub record Spells (raw : List ℕ) (c : ℕ) : Type 0 where
  pub chars : List ℕ
  pub bytes : raw ≡ bytes_of chars
  pub is : CharacterText (code "#" ∷ code "\\" ∷ chars) c ⊎ ForeignCharacter (code "#" ∷ code "\\" ∷ chars) c

-- ---- names

abbrev Named : Row → Type 0
Named r = (m : List ℕ) × (r.text ≡ bytes_of m) × CharacterName m r.number

named_rows : Every Named char_names
unfolding char_names
named_rows = (
  (codes "alarm", refl, named_alarm),
  (
    (codes "backspace", refl, named_backspace),
    (
      (codes "delete", refl, named_delete),
      (
        (codes "escape", refl, named_escape),
        (
          (codes "newline", refl, named_newline),
          (
            (codes "null", refl, named_null),
            (
              (codes "return", refl, named_return),
              (
                (codes "space", refl, named_space),
                ((codes "tab", refl, named_tab), tt),
              ),
            ),
          ),
        ),
      ),
    ),
  ),
)

-- a text in a table of names, or not
found : (rows : List Row) → Every Named rows → (raw : List ℕ)
    → (lookup rows raw unnamed ≡ unnamed) ⊎ ((m : List ℕ) × (raw ≡ bytes_of m) × CharacterName m (lookup rows raw unnamed))
unfolding lookup
found [] h raw = inl refl
found (r ∷ rows) h raw =
    by_bool (same raw r.text)
    (λ e. rw e (inr (h.0.0, same_is raw r.text e ∙ h.0.1, h.0.2)))
    (λ e. rw e (found rows h.1 raw))

-- a name is ASCII, and so is what differs from it in the case of letters
name_low : {m : List ℕ} {c : ℕ} → CharacterName m c → (Many Low m) × (bytes_of m ≡ m)
unfolding bytes_of utf8
name_low named_alarm = (many_all (λ k. ltb k 0x80) true (codes "alarm") refl, refl)
name_low named_backspace = (many_all (λ k. ltb k 0x80) true (codes "backspace") refl, refl)
name_low named_delete = (many_all (λ k. ltb k 0x80) true (codes "delete") refl, refl)
name_low named_escape = (many_all (λ k. ltb k 0x80) true (codes "escape") refl, refl)
name_low named_newline = (many_all (λ k. ltb k 0x80) true (codes "newline") refl, refl)
name_low named_null = (many_all (λ k. ltb k 0x80) true (codes "null") refl, refl)
name_low named_return = (many_all (λ k. ltb k 0x80) true (codes "return") refl, refl)
name_low named_space = (many_all (λ k. ltb k 0x80) true (codes "space") refl, refl)
name_low named_tab = (many_all (λ k. ltb k 0x80) true (codes "tab") refl, refl)

lower_low : (b : ℕ) → Low (meaning.lower b) → Low b
lower_low b h =
    by_bool (leb (code "A") b && leb b (code "Z"))
    (λ e. lt-ltb b 0x80 (omega (arith, leb-true b (code "Z") (and_true (leb (code "A") b) (leb b (code "Z")) e).1)))
    (λ e. rw e at h)

lowered_low : (bs : List ℕ) → Many Low (map meaning.lower bs) → Many Low bs
lowered_low [] m = done
lowered_low (b ∷ bs) (more h m) = more (lower_low b h) (lowered_low bs m)

same_lower : (t : List ℕ) → map lower t ≡ map meaning.lower t
unfolding lower within
same_lower [] = refl
same_lower (c ∷ t) = ap (λ (l : List ℕ). meaning.lower c ∷ l) (same_lower t)

named_spells : (r m : List ℕ) (c : ℕ) → map meaning.lower (bytes_of r) ≡ bytes_of m → CharacterName m c → Spells (bytes_of r) c
named_spells r m c e n =
    let l = name_low n in
    let is : map meaning.lower (bytes_of r) ≡ m = e ∙ l.1 in
    let ascii : r ≡ bytes_of r = low_chars r (lowered_low (bytes_of r) (subst (Many Low) (sym is) l.0)) in
    let name : map lower r ≡ m = same_lower r ∙ ap (map meaning.lower) ascii ∙ is in
    record {
      chars = r;
      bytes = refl;
      is = by_bool (same r m) (λ f. inl (by_name (subst (λ (l : List ℕ). CharacterName l c) (sym (same_is r m f)) n))) (λ f. inr (foreign.other_case n name));
    }

-- ---- digits

first_of_case : (x : ℕ) → x < 0x80 → eqb 0 x ≡ false → (r : List ℕ) → first_is x (bytes_of r) ≡ true → (q : List ℕ) × (r ≡ x ∷ q)
unfolding bytes_of
first_of_case x l z [] h = other z h
first_of_case x l z (c ∷ r) h = (r, ap (λ (n : ℕ). n ∷ r) (first_char x l c (bytes_of r) (eqb-true (get_or (utf8 c ++ bytes_of r) 0 0) x h)))

later_scalar : (n : ℕ) (v : Result ℕ CharError) (c : ℕ) → later n v ≡ Ok c → v ≡ Ok c
later_scalar n (Ok x) c e = e
later_scalar n (Err (Wrong m d)) c e = e
later_scalar n (Err (WrongAt m d p)) c e = other refl (ap is_value e)

-- what stands between `u{` and the last byte, which must be `}`
abbrev braced : List ℕ → Result ℕ CharError
braced t = if last_is (code "}") t then later 2 (scalar_of (hex_value (take (length t - 3) (drop 2 t)))) else Err (Wrong kind.UnclosedHexEscape (code "}"))

module _ (c : ℕ) where
  abbrev Is : List ℕ → Type 0
  Is t = CharacterText (code "#" ∷ code "\\" ∷ t) c ⊎ ForeignCharacter (code "#" ∷ code "\\" ∷ t) c

  -- the bytes after the letter that digits follow
  after_letter : (x : ℕ) (q : List ℕ) → ltb x 0x80 ≡ true → (t : List ℕ) → t ≡ x ∷ q → drop 1 (bytes_of t) ≡ bytes_of q
  after_letter x q l t e = ap (λ (t : List ℕ). drop 1 (bytes_of t)) e ∙ ap (drop 1) (bytes_ascii x q l)

  scalar_back : (n : ℕ) (q : List ℕ) → later n (scalar_of (hex_value (bytes_of q))) ≡ Ok c → SignedScalar q c
  scalar_back n q e = hex_back q c (later_scalar n (scalar_of (hex_value (bytes_of q))) c e)

  -- between braces: `u{`, some digits and `}`
  braced_spells : (q : List ℕ) → last_is (code "}") (bytes_of (code "u" ∷ code "{" ∷ q)) ≡ true
      → later 2 (scalar_of (hex_value (take (length (bytes_of (code "u" ∷ code "{" ∷ q)) - 3) (drop 2 (bytes_of (code "u" ∷ code "{" ∷ q)))))) ≡ Ok c
      → Is (code "u" ∷ code "{" ∷ q)
  unfolding bytes_of utf8
  braced_spells [] h e = other refl h
  braced_spells (x ∷ q) h e =
      let some : 0 < length (bytes_of (x ∷ q)) = ltb-true 0 (length (bytes_of (x ∷ q))) (bytes_some x q) in
      let f = last_of (code "}") (omega arith) refl (x ∷ q) (sym (last_behind (code "}") (codes "u{") (bytes_of (x ∷ q)) some) ∙ h) in
      let all : bytes_of (x ∷ q) ≡ bytes_of f.0 ++ codes "}" = ap bytes_of f.1 ∙ bytes_append f.0 (codes "}") in
      let count : length (bytes_of (x ∷ q)) ≡ length (bytes_of f.0) + 1 = ap length all ∙ length-append (bytes_of f.0) (codes "}") in
      let n : ℕ = length (bytes_of (code "u" ∷ code "{" ∷ x ∷ q)) - 3 in
      let short : length (bytes_of f.0) ≡ n = omega (arith, count) in
      let inside : take n (bytes_of (x ∷ q)) ≡ bytes_of f.0 = ap (take n) all ∙ take_at (bytes_of f.0) (codes "}") n short in
      subst (λ (l : List ℕ). Is (code "u" ∷ code "{" ∷ l)) (sym f.1)
      (inr (foreign.braced f.0 (scalar_back 2 f.0 (ap (λ (l : List ℕ). later 2 (scalar_of (hex_value l))) (sym inside) ∙ e))))

  -- `u`, and what follows it
  unicode_is : (q : List ℕ) → hex_named (bytes_of (code "u" ∷ q)) ≡ Ok c → Is (code "u" ∷ q)
  unfolding hex_named bytes_of utf8
  unicode_is q e =
      by_bool (first_is (code "{") (bytes_of q))
      (λ f. let g = first_of_case (code "{") (omega arith) refl q f in
      subst (λ (l : List ℕ). Is (code "u" ∷ l)) (sym g.1)
      (go g.0 (subst (λ (l : List ℕ). braced (bytes_of (code "u" ∷ l)) ≡ Ok c) g.1 (rw f at e))))
      (λ f. inr (foreign.unicode (scalar_back 1 q (rw f at e))))
    where
      go : (q : List ℕ) → braced (bytes_of (code "u" ∷ code "{" ∷ q)) ≡ Ok c → Is (code "u" ∷ code "{" ∷ q)
      go q e =
          by_bool (last_is (code "}") (bytes_of (code "u" ∷ code "{" ∷ q)))
          (λ f. braced_spells q f (rw f at e))
          (λ f. other refl (ap is_value (rw f at e)))

  unicode_spells : (r : List ℕ) → first_is (code "u") (bytes_of r) ≡ true → hex_named (bytes_of r) ≡ Ok c → Spells (bytes_of r) c
  unicode_spells r h e =
      let f = first_of_case (code "u") (omega arith) refl r h in
      record { chars = r; bytes = refl; is = subst Is (sym f.1) (unicode_is f.0 (subst (λ (t : List ℕ). hex_named (bytes_of t) ≡ Ok c) f.1 e)) }

  hex_spells : (r : List ℕ) → first_is (code "x") (bytes_of r) ≡ true → later 1 (scalar_of (hex_value (drop 1 (bytes_of r)))) ≡ Ok c → Spells (bytes_of r) c
  hex_spells r h e =
      let f = first_of_case (code "x") (omega arith) refl r h in
      let inside : drop 1 (bytes_of r) ≡ bytes_of f.0 = after_letter (code "x") f.0 refl r f.1 in
      let v : later 1 (scalar_of (hex_value (bytes_of f.0))) ≡ Ok c = ap (λ (t : List ℕ). later 1 (scalar_of (hex_value t))) (sym inside) ∙ e in
      record { chars = r; bytes = refl; is = subst Is (sym f.1) (go (scalar_back 1 f.0 v)) }
    where
      go : {q : List ℕ} → SignedScalar q c → Is (code "x" ∷ q)
      go (unsigned s) = inl (by_hex s)
      go (after_plus s) = inr (foreign.plus s)

  hexed : (r : List ℕ) → (first_is (code "u") (bytes_of r) || first_is (code "x") (bytes_of r)) ≡ true → hex_named (bytes_of r) ≡ Ok c → Spells (bytes_of r) c
  unfolding hex_named
  hexed r h e = by_bool (first_is (code "u") (bytes_of r)) (λ u. unicode_spells r u e) (λ u. hex_spells r (rw u at h) (rw u at e))

  -- ---- one character

  nameless_none : (report : Bool) (t : List ℕ) → is_value (nameless report t) ≡ false
  unfolding nameless
  nameless_none report t = by_bool (report && ltb (suc (before_delimiter (drop 1 t))) (length t)) (λ e. rw e) (λ e. rw e)

  one_spells : (report : Bool) (bs : List ℕ) (F : Front) → front bs ≡ F → only_one report F bs ≡ Ok c → Spells bs c
  unfolding bytes_of
  one_spells report bs (char x n) f q =
      by_bool (eqb n (length bs))
      (λ k. let v : Ok x ≡ Ok c = rw k at q in
      let o : x ≡ c = ap char_or v in
      let all : n ≡ length bs = eqb-true n (length bs) k in
      let a : CharAt bs 0 x (0 + n) = char_at bs 0 x (0 + n) (sym (ap (placed 0) f)) (omega arith) in
      let is : bs ≡ utf8 x = sym (take_all (0 + n - 0) bs (omega arith)) ∙ a.bytes in
      record { chars = c ∷ []; bytes = is ∙ ap utf8 o ∙ sym (append-nil (utf8 c)); is = inl (any (subst (λ (y : ℕ). is_scalar y ≡ true) o a.scalar)) })
      (λ k. other (nameless_none report bs) (ap is_value (rw k at q)))
  one_spells report bs (bad n) f q = other (nameless_none report bs) (ap is_value q)
  one_spells report bs cut f q = other (nameless_none report bs) (ap is_value q)
  one_spells report bs none f q = other (nameless_none report bs) (ap is_value q)

  -- ---- all of them

  out_spells : (report : Bool) (r : List ℕ) → spelled_out report (bytes_of r) ≡ Ok c → Spells (bytes_of r) c
  unfolding spelled_out
  out_spells report r e =
      let bs : List ℕ = bytes_of r in
      let lettered : Bool = first_is (code "u") bs || first_is (code "x") bs in
      by_bool (lettered && ltb 1 (length bs))
      (λ f. let g = and_true lettered (ltb 1 (length bs)) f in hexed r g.0 (rw f at e))
      (λ f. one_spells report bs (front bs) refl (rw f at e))

  named : (r low : List ℕ) → map meaning.lower (bytes_of r) ≡ low → eqb (lookup char_names low unnamed) unnamed ≡ false → lookup char_names low unnamed ≡ c
      → (lookup char_names low unnamed ≡ unnamed) ⊎ ((m : List ℕ) × (low ≡ bytes_of m) × CharacterName m (lookup char_names low unnamed)) → Spells (bytes_of r) c
  named r low l f o (inl g) = other f (ap (λ (n : ℕ). eqb n unnamed) g)
  named r low l f o (inr g) = named_spells r g.0 c (l ∙ g.1) (subst (CharacterName g.0) o g.2)

  pub spells : (report : Bool) (r : List ℕ) → character_of report (bytes_of r) ≡ Ok c → Spells (bytes_of r) c
  unfolding character_of
  spells report r e =
      let low : List ℕ = map meaning.lower (bytes_of r) in
      by_bool (eqb (lookup char_names low unnamed) unnamed)
      (λ f. out_spells report r (rw f at e))
      (λ f. let v : Ok (lookup char_names low unnamed) ≡ Ok c = rw f at e in named r low refl f (ap char_or v) (found char_names named_rows low))

character_meant : {report : Bool} {s e : ℕ} {t : List ℕ} {m : Meaning} → Meant report s e t m → eqb m.kind kind.CharacterLiteral ≡ true
    → (u : List ℕ) × (bytes_of t ≡ bytes_of u) × (CharacterText u m.detail ⊎ ForeignCharacter u m.detail)
unfolding bytes_of utf8
character_meant {report} {t = t} (character {c = c} f g h) k =
    let q = begins_chars (codes "#\\") t refl f in
    let z : Spells (bytes_of q.0) c = spells c report q.0 (ap (λ (l : List ℕ). character_of report (char_inside (bytes_of l))) (sym q.1) ∙ h) in
    (code "#" ∷ code "\\" ∷ z.chars, ap bytes_of q.1 ∙ ap (λ (l : List ℕ). code "#" ∷ code "\\" ∷ l) z.bytes, z.is)
character_meant (token {k = n} h) k = none_of spelled_kinds n kind.CharacterLiteral refl (spelled_kind h) k
character_meant (string h r) k = other refl k
character_meant (here_string h) k = other refl k
character_meant (number n h) k = other refl k
character_meant (word {k = n} h) k = none_of word_kinds n kind.CharacterLiteral refl h k
character_meant (error n d) k = no_error_holds n kind.CharacterLiteral (omega arith) k

-- of the items of a text, in both modes
pub character_items : (report : Bool) (cs : List ℕ) → Every (CharacterIn (bytes_of cs)) (items report cs)
character_items report cs = of_items report CharacterIn so cs
  where
    so : (whole : List ℕ) (i : Item) → AnItem report whole i → CharacterIn whole i
    so whole i z k = let u = character_meant z.meant k in (u.0, z.bytes ∙ u.1, u.2)
