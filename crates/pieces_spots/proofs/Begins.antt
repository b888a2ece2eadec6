-- What a byte begins: the rows of `first_of` that are told here, each by computation; letters and digits by their range.
use Prim.Native.Nat.{ℕ, ◌+◌, ◌≤◌, ◌<◌, ◌^◌}
use mathlib.Core.Path.{◌≡◌, refl, sym, subst, ap}
use mathlib.Core.Bool.{true}
use native.Mathlib.Omega.{arith}
use Rattle.laws.specs.Quoted.{code}
use Rattle.chars.specs.Blank.{is_blank}
use Rattle.items.specs.Classes.{starts_run, first_of}
use Rattle.steps.proofs.Characters.{upto}
use Rattle.items.specs.declared.Phase.{Phase}
use Rattle.pieces.specs.declared.Stage.TheVariants.{Busy}
use Rattle.pieces_lent.specs.Coding.{stage_of, stage_row}
use Rattle.items_telling.proofs.Firsts.{all_begin, words_from, letters, capitals, digit_solid, digit_first}
use Rattle.pieces_spots.specs.Spots.{Solid, Firsts}

pub none_told : (c : ℕ) → Firsts c 0
none_told c = record { blank = λ e. absurd (omega arith); begins = λ h. absurd (omega arith); few = omega arith }

pub blank_told : (b c : ℕ) → b ≡ c → c < 0x80 → is_blank c ≡ true → Firsts b 3
blank_told b c e h k =
    subst (λ (x : ℕ). Firsts x 3) (sym e) (record { blank = λ f. (h, k); begins = λ f. absurd (omega arith); few = omega arith })

pub solid_told : (b c r : ℕ) → b ≡ c → 3 < r → r < 2 ^ 16 → Solid c r → Firsts b r
solid_told b c r e h k s =
    subst (λ (x : ℕ). Firsts x r) (sym e) (record { blank = λ f. absurd (omega arith); begins = λ f. s; few = k })

pub space : is_blank 0x20 ≡ true
unfolding is_blank
space = refl

pub newline : is_blank 0x0A ≡ true
unfolding is_blank
newline = refl

pub return : is_blank 0x0D ≡ true
unfolding is_blank
return = refl

pub tab : is_blank 0x09 ≡ true
unfolding is_blank
tab = refl

pub open_round : Solid (code "(") 31
unfolding first_of starts_run is_blank stage_of
open_round = record { small = omega arith; solid = refl; stands = λ st. refl; rows = λ st. refl }

pub close_round : Solid (code ")") 95
unfolding first_of starts_run is_blank stage_of
close_round = record { small = omega arith; solid = refl; stands = λ st. refl; rows = λ st. refl }

pub open_square_case : Solid (code "[") 2079
unfolding first_of starts_run is_blank stage_of
open_square_case = record { small = omega arith; solid = refl; stands = λ st. refl; rows = λ st. refl }

pub close_square_case : Solid (code "]") 2143
unfolding first_of starts_run is_blank stage_of
close_square_case = record { small = omega arith; solid = refl; stands = λ st. refl; rows = λ st. refl }

pub quote_sign : Solid (code "\"") 24
unfolding first_of starts_run is_blank stage_of
quote_sign = record { small = omega arith; solid = refl; stands = λ st. refl; rows = λ st. refl }

pub semicolon_sign : Solid (code ";") 7
unfolding first_of starts_run is_blank stage_of
semicolon_sign = record { small = omega arith; solid = refl; stands = λ st. refl; rows = λ st. refl }

pub tick : Solid (code "'") 159
unfolding first_of starts_run is_blank stage_of
tick = record { small = omega arith; solid = refl; stands = λ st. refl; rows = λ st. refl }

pub hash_sign : Solid (code "#") 9
unfolding first_of starts_run is_blank stage_of
hash_sign = record { small = omega arith; solid = refl; stands = λ st. refl; rows = λ st. refl }

pub open_curly_case : Solid (code "{") 4127
unfolding first_of starts_run is_blank stage_of
open_curly_case = record { small = omega arith; solid = refl; stands = λ st. refl; rows = λ st. refl }

pub close_curly_case : Solid (code "}") 4191
unfolding first_of starts_run is_blank stage_of
close_curly_case = record { small = omega arith; solid = refl; stands = λ st. refl; rows = λ st. refl }

pub comma_sign : Solid (code ",") 8
unfolding first_of starts_run is_blank stage_of
comma_sign = record { small = omega arith; solid = refl; stands = λ st. refl; rows = λ st. refl }

pub bar : Solid (code "|") 88
unfolding first_of starts_run is_blank stage_of
bar = record { small = omega arith; solid = refl; stands = λ st. refl; rows = λ st. refl }

pub minus : Solid (code "-") 16
unfolding first_of starts_run is_blank stage_of
minus = record { small = omega arith; solid = refl; stands = λ st. refl; rows = λ st. refl }

pub plus : Solid (code "+") 16
unfolding first_of starts_run is_blank stage_of
plus = record { small = omega arith; solid = refl; stands = λ st. refl; rows = λ st. refl }

pub dot : Solid (code ".") 16
unfolding first_of starts_run is_blank stage_of
dot = record { small = omega arith; solid = refl; stands = λ st. refl; rows = λ st. refl }

-- ---- words

-- so many characters from one on, each of which begins a word
word : (n a c : ℕ) → all_begin (upto n a) ≡ true → a + n ≤ 0x80 → a ≤ c → c < a + n → Solid c 14
unfolding stage_of
word n a c all small low high =
    let w = words_from n a c all low high in
    record { small = omega arith; solid = w.0; stands = λ st. ap (Busy st) (sym w.1); rows = λ st. ap (λ (p : Phase). stage_row (Busy st p)) w.1 }

pub letter : (c : ℕ) → code "a" ≤ c → c < code "z" + 1 → Solid c 14
letter c low high = word 26 (code "a") c letters (omega arith) low high

-- the capital letters, and = > ? @ before them
pub capital : (c : ℕ) → code "=" ≤ c → c < code "Z" + 1 → Solid c 14
capital c low high = word 31 (code "<") c capitals (omega arith) (omega arith) high

pub star : Solid (code "*") 14
unfolding first_of starts_run is_blank stage_of
star = record { small = omega arith; solid = refl; stands = λ st. refl; rows = λ st. refl }

pub digit : (c : ℕ) → code "0" ≤ c → c < code "9" + 1 → Solid c 16
unfolding stage_of
digit c low high =
    let f = digit_first c low (omega arith) in
    record {
      small = omega arith;
      solid = digit_solid c low (omega arith);
      stands = λ st. ap (Busy st) (sym f);
      rows = λ st. ap (λ (p : Phase). stage_row (Busy st p)) f;
    }
