-- Where an escape's error 11 comes from: in quotes, the digits stand right behind `\x`, `\u` or `\u{` and before their closer. That a
-- step keeps it, stands in `Steps`.
use Prim.Native.Nat.{ℕ, ◌+◌, ◌<◌}
use mathlib.Core.Path.{◌≡◌, sym, ap, ◌∙◌}
use mathlib.Core.Bool.{true}
use mathlib.Core.List.{List, [], ◌∷◌, ◌++◌, append_assoc}
use lib.ListN.{length, drop, length-append}
use lib.Seq.{drop-append_seam}
use native.Mathlib.Omega.{arith}
use Rattle.laws.specs.Quoted.{code, codes}
use Rattle.laws.specs.Texts.{begins}
use Rattle.chars.specs.Encode.{utf8, spelled}
use Rattle.chars.proofs.Width.{utf8-one}
use Rattle.digits.specs.Hex.{hex_value, wrong}
use Rattle.items.specs.declared.Outcome.{Outcome}
use Rattle.items.specs.declared.Outcome.TheVariants.{Token, Str, HereStr, Word, Run, Lined, Keyword, Character, Error, ErrorAt}
use Rattle.items.specs.Kinds as kind
use Rattle.items.specs.Readers.{past_failing}
use Rattle.items.proofs.Every.{Every, every_append}
use Rattle.items_errors.specs.First.{OfEscape, Inner}

-- what stands after the digits: nothing, or a byte of ASCII
pub data Stops : List ℕ → Type 0 where
  over : Stops []
  byte : (y : ℕ) (ys : List ℕ) → y < 0x80 → Stops (y ∷ ys)

-- what x and k, its last byte, are the end of: an escape that the byte closer closes
pub data Behind : List ℕ → ℕ → ℕ → Type 0 where
  behind_x : (before : List ℕ) → Behind (before ++ (code "\\" ∷ [])) (code "x") (code ";")
  behind_u : (before : List ℕ) → Behind (before ++ (code "\\" ∷ [])) (code "u") (code ";")
  behind_brace : (before : List ℕ) → Behind (before ++ (code "\\" ∷ code "u" ∷ [])) (code "{") (code "}")

-- the digits ds of the last escape in quotes stand in the bytes raw, n bytes behind their start
pub record Quoted (raw ds : List ℕ) (n : ℕ) : Type 0 where
  pub before : List ℕ
  pub opening : List ℕ
  pub closer : List ℕ
  pub of : OfEscape opening closer
  pub is : raw ≡ before ++ (opening ++ (ds ++ closer))
  pub inner : Every Inner ds
  pub count : n ≡ length before + length opening

module _ (raw : List ℕ) (ds : List ℕ) (inner : Every Inner ds) where
  quoted : (before mark : List ℕ) (k : ℕ) (closer : List ℕ) → OfEscape (mark ++ (k ∷ [])) closer
      → raw ≡ (before ++ mark) ++ k ∷ (ds ++ closer) → Quoted raw ds (length (before ++ mark) + 1)
  quoted before mark k closer of is = record {
    before = before;
    opening = mark ++ (k ∷ []);
    closer = closer;
    of = of;
    is = is ∙ append_assoc before mark (k ∷ (ds ++ closer)) ∙ ap (λ (l : List ℕ). before ++ l) (sym (append_assoc mark (k ∷ []) (ds ++ closer)));
    inner = inner;
    count = omega (arith, length-append before mark, length-append mark (k ∷ []));
  }

  pub quoted_behind : (x : List ℕ) (k closer : ℕ) → Behind x k closer → raw ≡ x ++ k ∷ (ds ++ (closer ∷ [])) → Quoted raw ds (length x + 1)
  quoted_behind x k closer (behind_x before) is = quoted before (codes "\\") k (codes ";") OfEscape.x is
  quoted_behind x k closer (behind_u before) is = quoted before (codes "\\") k (codes ";") OfEscape.u is
  quoted_behind x k closer (behind_brace before) is = quoted before (codes "\\u") k (codes "}") OfEscape.brace is

-- In the bytes raw of an extent that starts at s stand digits ds that fail with the detail d. They are told at a to b
pub record Digits (s : ℕ) (raw : List ℕ) (d a b : ℕ) : Type 0 where
  pub x : List ℕ
  pub k : ℕ
  pub ds : List ℕ
  pub ys : List ℕ
  pub zs : List ℕ
  pub p : ℕ
  pub ascii : k < 0x80
  pub stop : Stops ys
  pub is : raw ≡ x ++ k ∷ (ds ++ ys)
  pub fails : hex_value ds ≡ wrong d p
  pub from : a ≡ s + (length x + 1 + p)
  pub to : b ≡ past_failing d a (drop p ds ++ zs)

-- what is known of an outcome of the bytes raw
abbrev pub Told : ℕ → List ℕ → Outcome → Type 0
Told s raw (Token k d) = k < kind.first_error
Told s raw Str = Unit {0}
Told s raw HereStr = Unit {0}
Told s raw Word = Unit {0}
Told s raw Run = Unit {0}
Told s raw Lined = Unit {0}
Told s raw Keyword = Unit {0}
Told s raw Character = begins (spelled "#\\") raw ≡ true
Told s raw (Error n d) = n < kind.InvalidHexEscapeLiteral
Told s raw (ErrorAt n d a b) = n ≡ kind.InvalidHexEscapeLiteral → (g : Digits s raw d a b) × Quoted raw g.ds (length g.x + 1)

-- the bytes end with what opens an escape, a backslash or `\u`
abbrev pub EndsWith : List ℕ → List ℕ → Type 0
EndsWith raw end = (before : List ℕ) × (raw ≡ before ++ end)

-- the bytes end with what opens hexadecimal digits, and some of these
pub record Opened (raw : List ℕ) (n closer : ℕ) : Type 0 where
  pub x : List ℕ
  pub k : ℕ
  pub ds : List ℕ
  pub ascii : k < 0x80
  pub is : raw ≡ x ++ k ∷ ds
  pub count : n ≡ length x + 1
  pub behind : Behind x k closer
  pub inner : Every Inner ds

-- a byte k of ASCII was added that opens digits
pub opens : (raw : List ℕ) (c k : ℕ) → c ≡ k → k < 0x80 → (closer : ℕ) → Behind raw k closer → Opened (raw ++ utf8 c) (length (raw ++ utf8 c)) closer
opens raw c k e h closer b =
    let u : utf8 c ≡ k ∷ [] = ap utf8 e ∙ utf8-one k h in
    record {
      x = raw;
      k = k;
      ds = [];
      ascii = h;
      is = ap (λ (l : List ℕ). raw ++ l) u;
      count = length-append raw (utf8 c) ∙ omega (arith, ap length u);
      behind = b;
      inner = tt;
    }

pub more_opened : (raw : List ℕ) (n closer c : ℕ) → Every Inner (utf8 c) → Opened raw n closer → Opened (raw ++ utf8 c) n closer
more_opened raw n closer c h o = record {
  x = o.x;
  k = o.k;
  ds = o.ds ++ utf8 c;
  ascii = o.ascii;
  is = ap (λ (l : List ℕ). l ++ utf8 c) o.is ∙ append_assoc o.x (o.k ∷ o.ds) (utf8 c);
  count = o.count;
  behind = o.behind;
  inner = every_append Inner o.ds (utf8 c) o.inner h;
}

-- what follows the byte of ASCII
pub opened_rest : (raw : List ℕ) (n closer : ℕ) (o : Opened raw n closer) → drop n raw ≡ o.ds
opened_rest raw n closer o =
    let e : raw ≡ (o.x ++ (o.k ∷ [])) ++ o.ds = o.is ∙ sym (append_assoc o.x (o.k ∷ []) o.ds) in
    let l : n ≡ length (o.x ++ (o.k ∷ [])) = omega (arith, o.count, length-append o.x (o.k ∷ [])) in
    rw (l, e) (drop-append_seam (o.x ++ (o.k ∷ [])) o.ds)
