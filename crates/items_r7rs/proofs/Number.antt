-- Numbers: a number run goes on to a delimiter, and is one Number where its bytes are a number.
use Rattle.std.proofs.Common.{Ok}
use Prim.Native.Nat.{ℕ, ◌<◌}
use mathlib.Core.Path.{◌≡◌, refl, ap, ◌∙◌}
use mathlib.Core.Bool.{Bool, true, false}
use mathlib.Core.List.{List, [], ◌∷◌, ◌++◌}
use lib.ListN.{length, get_or}
use native.Mathlib.Omega.{arith}
use Rattle.laws.specs.Quoted.{codes, code, one_of}
use Rattle.chars.specs.Blank.{is_blank}
use Rattle.chars.specs.Encode.{bytes_of}
use Rattle.numbers.specs.declared.Parts.{Parts}
use Rattle.numbers.specs.declared.Parts.TheVariants.{Just}
use Rattle.numbers.specs.Grammar.{just_of, zero_parts, judged, parse_number}
use Rattle.items.specs.declared.Outcome.TheVariants.{Run}
use Rattle.items.specs.Classes.{starts_run, first_of, stays_run, ends_run, in_run, after_hash, number, stops_run}
use Rattle.items.specs.Meaning.{run_means, none}
use Rattle.items.specs.Readers.{so_far, got, read_run, read_hash, read_item, SoFar, eat}
use Rattle.items.specs.Kinds as kind
use Rattle.items_r7rs.specs.Delimiter.{number_delimiters, Ends, at_end, before}
use Rattle.items_r7rs.specs.Number.{Sign, no_sign, plus_sign, minus_sign, Infnan, plus_inf, minus_inf, plus_nan, minus_nan, RealText, a_real, an_infnan}
use Rattle.items_r7rs.specs.Reading.{nothing, ReadAs}
use Rattle.items_r7rs.specs.Repeated.{Many, done, more}
use Rattle.items_r7rs.proofs.Classes.{at_one_of, many_all}
use Rattle.items_r7rs.proofs.Computed.{infnan_number}
use Rattle.items_r7rs.proofs.Reading.{eats, eats-whole, got-whole, read_one}
use Rattle.items_r7rs.proofs.Reals.{many_map, many_append, Numeral, numeral_is, leaders, sign_numerals, shape, signed_text, real_parse, Shape}
use Rattle.items_r7rs.proofs.Ureal.{ureal_real}

-- ---- runs

-- a character of a run
abbrev pub Stays : ℕ → Type 0
Stays c = stays_run c ≡ true

run_stays : (report : Bool) (i : SoFar) (cs : List ℕ) {t : List ℕ} → Many Stays t → read_run report i (t ++ cs) ≡ read_run report (eats i t) cs
unfolding read_run in_run
run_stays report i cs done = refl
run_stays report i cs (more {c = c} h m) = rw (h, read_run) (run_stays report (eat i c) cs m)

-- every delimiter ends a run that is a number; a vertical line no other
stops_run_lem : (report : Bool) (raw : List ℕ) {p : Parts} → parse_number raw ≡ Ok p → (c : ℕ) → one_of (number_delimiters report) c ≡ true → in_run report raw c ≡ stops_run
unfolding in_run stays_run ends_run is_blank
stops_run_lem true raw n c h = at_one_of (in_run true raw) stops_run (number_delimiters true) c (rw n) h
stops_run_lem false raw n c h = at_one_of (in_run false raw) stops_run (number_delimiters false) c refl h

run_stops : (report : Bool) (i : SoFar) {p : Parts} {cs : List ℕ} → parse_number i.bytes ≡ Ok p → Ends (number_delimiters report) cs → read_run report i cs ≡ got Run i cs
unfolding read_run
run_stops report i n at_end = refl
run_stops report i n (before {c = c} h) = rw (stops_run_lem report i.bytes n c h, read_run)

-- the bytes of a run are those of its characters
run_number : (at : ℕ) (t : List ℕ) {p : Parts} → parse_number (bytes_of t) ≡ Ok p → parse_number (eats (so_far [] at) t).bytes ≡ Ok p
run_number at t n = ap (λ (i : SoFar). parse_number i.bytes) (eats-whole at t) ∙ n

pub begins_run : (c : ℕ) → starts_run c ≡ true → first_of c ≡ number
unfolding first_of starts_run
begins_run c h = at_one_of first_of number (codes "+-.0123456789") c refl h

run_nonblank : (c : ℕ) → starts_run c ≡ true → is_blank c ≡ false
unfolding starts_run is_blank
run_nonblank c h = at_one_of is_blank false (codes "+-.0123456789") c refl h

-- a run whose bytes are a number to crate numbers' grammar
module _ (report : Bool) (c : ℕ) {t cs : List ℕ} where
  pub number_run : starts_run c ≡ true → Many Stays t → (p : Parts) → parse_number (bytes_of (c ∷ t)) ≡ Ok p → Ends (number_delimiters report) cs
      → ReadAs report (c ∷ t) cs kind.Number 0 nothing
  unfolding read_item run_means
  number_run s m p n e = record {
    text = λ at. none;
    one = read_one report c t cs Run kind.Number 0 (λ at. none) (run_nonblank c s) refl
        (λ at. rw (begins_run c s, read_item) (run_stays report _ cs m ∙ (run_stops report _ (run_number at (c ∷ t) n) e ∙ got-whole Run at (c ∷ t) cs)))
        (λ last at. refl)
        (λ at. rw n);
    spells = λ at. refl;
  }

  -- and one with the prefix of a radix, #x, #d, #o or #b
  pub prefixed_run : one_of (codes "xXdDoObB") c ≡ true → Many Stays t → (p : Parts) → parse_number (bytes_of (code "#" ∷ c ∷ t)) ≡ Ok p → Ends (number_delimiters report) cs
      → ReadAs report (code "#" ∷ c ∷ t) cs kind.Number 0 nothing
  unfolding read_item first_of starts_run read_hash after_hash run_means is_blank
  prefixed_run s m p n e = record {
    text = λ at. none;
    one = read_one report (code "#") (c ∷ t) cs Run kind.Number 0 (λ at. none) refl refl
        (λ at. rw (s, read_hash) (run_stays report _ cs m ∙ (run_stops report _ (run_number at (code "#" ∷ c ∷ t) n) e ∙ got-whole Run at (code "#" ∷ c ∷ t) cs)))
        (λ last at. refl)
        (λ at. rw n);
    spells = λ at. refl;
  }

-- ---- <real 10>

pub real_number : {t : List ℕ} → RealText t → (p : Parts) × (parse_number (bytes_of t) ≡ Ok p)
unfolding judged just_of zero_parts
real_number (a_real s u {b = b} g x) =
    let h = shape x in
    let r = ureal_real b (length s) x in
    (Just r.real_is, real_parse (many_append (sign_numerals g) h.all) (signed_text g h) ∙ rw (r.gives, r.proper))
real_number (an_infnan x) = infnan_number x

-- it is a run from its first character on
numerals_stay : {t : List ℕ} → Many Numeral t → Many Stays t
unfolding stays_run
numerals_stay m = many_map (numeral_is stays_run true refl) m

shape_starts : {u : List ℕ} → Shape u → starts_run (get_or u 0 0) ≡ true
unfolding starts_run
shape_starts {u} h = at_one_of starts_run true leaders (get_or u 0 0) refl h.leads

signed_run : {s u : List ℕ} {b : Bool} → Sign s b → Shape u → (0 < length (s ++ u)) × (starts_run (get_or (s ++ u) 0 0) ≡ true) × (Many Stays (s ++ u))
unfolding starts_run
signed_run no_sign h = (h.length_some, shape_starts h, numerals_stay h.all)
signed_run plus_sign h = (omega arith, refl, numerals_stay (more refl h.all))
signed_run minus_sign h = (omega arith, refl, numerals_stay (more refl h.all))

infnan_run : {t : List ℕ} → Infnan t → (0 < length t) × (starts_run (get_or t 0 0) ≡ true) × (Many Stays t)
unfolding starts_run stays_run
infnan_run plus_inf = (omega arith, refl, many_all stays_run true (codes "+inf.0") refl)
infnan_run minus_inf = (omega arith, refl, many_all stays_run true (codes "-inf.0") refl)
infnan_run plus_nan = (omega arith, refl, many_all stays_run true (codes "+nan.0") refl)
infnan_run minus_nan = (omega arith, refl, many_all stays_run true (codes "-nan.0") refl)

real_run : {t : List ℕ} → RealText t → (0 < length t) × (starts_run (get_or t 0 0) ≡ true) × (Many Stays t)
real_run (a_real s u g x) = signed_run g (shape x)
real_run (an_infnan x) = infnan_run x

first_run : (report : Bool) (t cs : List ℕ) → 0 < length t → starts_run (get_or t 0 0) ≡ true → Many Stays t → (p : Parts) → parse_number (bytes_of t) ≡ Ok p
    → Ends (number_delimiters report) cs → ReadAs report t cs kind.Number 0 nothing
first_run report [] cs l s m p n e = absurd (omega arith)
first_run report (c ∷ t) cs l s (more h m) p n e = number_run report c s m p n e

pub real_text : (report : Bool) {t : List ℕ} (cs : List ℕ) → RealText t → Ends (number_delimiters report) cs → ReadAs report t cs kind.Number 0 nothing
real_text report {t} cs x e =
    let r = real_run x in
    let n = real_number x in
    first_run report t cs r.0 r.1 r.2 n.0 n.1 e
