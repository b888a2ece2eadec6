-- A case for each class of a character, each kind of `#` word, each value and each step, with the equation that says which it is.
use Rattle.std.proofs.Common.{Err, Ok, Result}
use Rattle.items.specs.declared.Outcome.{Outcome}
use Rattle.items.specs.declared.Phase.{Phase}
use Rattle.items.specs.declared.Next.{Next}
use Rattle.items.specs.declared.Next.TheVariants.{Eat, Stop}
use Rattle.items.specs.declared.HashKind.{HashKind}
use Rattle.items.specs.declared.HashKind.TheVariants.{Decided, Bracket, Undecided}
use Rattle.items.specs.declared.CharError.{CharError}
use Rattle.items.specs.declared.CharError.TheVariants.{Wrong, WrongAt}
use Rattle.items.specs.Classes.{First, semicolon, quote, comma, hash, number, single, vertical, backslash, wordy, InQuotes, ends}
use Rattle.items.specs.Classes.{escapes, plain, AfterBackslash, simple, hex_x, hex_u, blank, newline, invalid, InHex, closes, stops}
use Rattle.items.specs.Classes.{digit, InTrim, space, line, solid, InNest, bar, sharp, inside, InWord, breaks, skips, goes, InRun}
use Rattle.items.specs.Classes.{stays, stops_run, leaves, AfterHash, radix, opens_nest, datum, twice, angle, value, InHash, skips_two}
use Rattle.items.specs.Classes.{tick, commas, stops_hash, stays_hash, InDelim, ends_delim, returns, blank_delim, of_delim}
use Prim.Native.Nat.{ℕ}
use mathlib.Core.Path.{◌≡◌, refl}

module _ {P : Type 0} where
  pub by_first : (k : First) → (k ≡ semicolon → P) → (k ≡ quote → P) → (k ≡ comma → P) → (k ≡ hash → P) → (k ≡ number → P)
      → ((x : ℕ) (y : ℕ) → k ≡ single x y → P) → (k ≡ vertical → P) → (k ≡ backslash → P) → (k ≡ wordy → P) → P
  by_first semicolon f g h i j l m n o = f refl
  by_first quote f g h i j l m n o = g refl
  by_first comma f g h i j l m n o = h refl
  by_first hash f g h i j l m n o = i refl
  by_first number f g h i j l m n o = j refl
  by_first (single x y) f g h i j l m n o = l x y refl
  by_first vertical f g h i j l m n o = m refl
  by_first backslash f g h i j l m n o = n refl
  by_first wordy f g h i j l m n o = o refl

  pub by_quotes : (k : InQuotes) → (k ≡ ends → P) → (k ≡ escapes → P) → (k ≡ plain → P) → P
  by_quotes ends f g h = f refl
  by_quotes escapes f g h = g refl
  by_quotes plain f g h = h refl

  pub by_backslash : (k : AfterBackslash) → ((x : ℕ) → k ≡ simple x → P) → (k ≡ hex_x → P) → (k ≡ hex_u → P) → (k ≡ blank → P) → (k ≡ newline → P)
      → (k ≡ invalid → P) → P
  by_backslash (simple x) f g h i j l = f x refl
  by_backslash hex_x f g h i j l = g refl
  by_backslash hex_u f g h i j l = h refl
  by_backslash blank f g h i j l = i refl
  by_backslash newline f g h i j l = j refl
  by_backslash invalid f g h i j l = l refl

  pub by_hex : (k : InHex) → (k ≡ closes → P) → (k ≡ stops → P) → (k ≡ digit → P) → P
  by_hex closes f g h = f refl
  by_hex stops f g h = g refl
  by_hex digit f g h = h refl

  pub by_trim : (k : InTrim) → (k ≡ space → P) → (k ≡ line → P) → (k ≡ solid → P) → P
  by_trim space f g h = f refl
  by_trim line f g h = g refl
  by_trim solid f g h = h refl

  pub by_nest : (k : InNest) → (k ≡ bar → P) → (k ≡ sharp → P) → (k ≡ inside → P) → P
  by_nest bar f g h = f refl
  by_nest sharp f g h = g refl
  by_nest inside f g h = h refl

  pub by_word : (k : InWord) → (k ≡ breaks → P) → (k ≡ skips → P) → (k ≡ goes → P) → P
  by_word breaks f g h = f refl
  by_word skips f g h = g refl
  by_word goes f g h = h refl

  pub by_run : (k : InRun) → (k ≡ stays → P) → (k ≡ stops_run → P) → (k ≡ leaves → P) → P
  by_run stays f g h = f refl
  by_run stops_run f g h = g refl
  by_run leaves f g h = h refl

  pub by_after : (k : AfterHash) → (k ≡ radix → P) → (k ≡ opens_nest → P) → (k ≡ datum → P) → (k ≡ twice → P) → (k ≡ angle → P) → (k ≡ value → P) → P
  by_after radix f g h i j l = f refl
  by_after opens_nest f g h i j l = g refl
  by_after datum f g h i j l = h refl
  by_after twice f g h i j l = i refl
  by_after angle f g h i j l = j refl
  by_after value f g h i j l = l refl

  pub by_hash : (k : InHash) → (k ≡ skips_two → P) → (k ≡ tick → P) → (k ≡ commas → P) → (k ≡ stops_hash → P) → (k ≡ stays_hash → P) → P
  by_hash skips_two f g h i j = f refl
  by_hash tick f g h i j = g refl
  by_hash commas f g h i j = h refl
  by_hash stops_hash f g h i j = i refl
  by_hash stays_hash f g h i j = j refl

  pub by_delim : (k : InDelim) → (k ≡ ends_delim → P) → (k ≡ returns → P) → (k ≡ blank_delim → P) → (k ≡ of_delim → P) → P
  by_delim ends_delim f g h i = f refl
  by_delim returns f g h i = g refl
  by_delim blank_delim f g h i = h refl
  by_delim of_delim f g h i = i refl

  pub by_value : (k : Result ℕ CharError) → ((x : ℕ) → k ≡ Ok x → P) → ((x : ℕ) (y : ℕ) → k ≡ Err (Wrong x y) → P)
      → ((x : ℕ) (y : ℕ) (z : ℕ) → k ≡ Err (WrongAt x y z) → P)
      → P
  by_value (Ok x) f g h = f x refl
  by_value (Err (Wrong x y)) f g h = g x y refl
  by_value (Err (WrongAt x y z)) f g h = h x y z refl

  pub by_kind : (k : HashKind) → ((x : Outcome) → k ≡ Decided x → P) → ((x : ℕ) → k ≡ Bracket x → P) → (k ≡ Undecided → P) → P
  by_kind (Decided x) f g h = f x refl
  by_kind (Bracket x) f g h = g x refl
  by_kind Undecided f g h = h refl

  pub by_next : (k : Next) → ((x : Phase) → k ≡ Eat x → P) → ((x : Outcome) → k ≡ Stop x → P) → P
  by_next (Eat x) f g = f x refl
  by_next (Stop x) f g = g x refl
