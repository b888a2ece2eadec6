-- Each arm is a row of Begins.
use native.Mathlib.Omega.{arith}
use mathlib.Core.Path.{refl}
use Rattle.laws.specs.Quoted.{code}
use Rattle.pieces_spots.proofs.Begins as begins
use Rattle.pieces_spots.proofs.first_byte.first.Goals as goal

pub returns-in-32 : goal.returns-in-32
returns-in-32 c = begins.blank_told _ 0x20 c.in-32.is (omega arith) begins.space

pub returns-in-10 : goal.returns-in-10
returns-in-10 c = begins.blank_told _ 0x0A c.in-10.is (omega arith) begins.newline

pub returns-in-13 : goal.returns-in-13
returns-in-13 c = begins.blank_told _ 0x0D c.in-13.is (omega arith) begins.return

pub returns-in-9 : goal.returns-in-9
returns-in-9 c = begins.blank_told _ 0x09 c.in-9.is (omega arith) begins.tab

pub returns-in-42 : goal.returns-in-42
returns-in-42 c = begins.solid_told _ (code "*") 14 c.in-42.is (omega arith) (omega arith) begins.star

pub returns-in-45 : goal.returns-in-45
returns-in-45 c = begins.solid_told _ (code "-") 16 c.in-45.is (omega arith) (omega arith) begins.minus

pub returns-in-43 : goal.returns-in-43
returns-in-43 c = begins.solid_told _ (code "+") 16 c.in-43.is (omega arith) (omega arith) begins.plus

pub returns-in-46 : goal.returns-in-46
returns-in-46 c = begins.solid_told _ (code ".") 16 c.in-46.is (omega arith) (omega arith) begins.dot

pub returns-in-40 : goal.returns-in-40
returns-in-40 c = begins.solid_told _ (code "(") 31 c.in-40.is (omega arith) (omega arith) begins.open_round

pub returns-in-41 : goal.returns-in-41
returns-in-41 c = begins.solid_told _ (code ")") 95 c.in-41.is (omega arith) (omega arith) begins.close_round

pub returns-in-91 : goal.returns-in-91
returns-in-91 c = begins.solid_told _ (code "[") 2079 c.in-91.is (omega arith) (omega arith) begins.open_square_case

pub returns-in-93 : goal.returns-in-93
returns-in-93 c = begins.solid_told _ (code "]") 2143 c.in-93.is (omega arith) (omega arith) begins.close_square_case

pub returns-in-123 : goal.returns-in-123
returns-in-123 c = begins.solid_told _ (code "{") 4127 c.in-123.is (omega arith) (omega arith) begins.open_curly_case

pub returns-in-125 : goal.returns-in-125
returns-in-125 c = begins.solid_told _ (code "}") 4191 c.in-125.is (omega arith) (omega arith) begins.close_curly_case

pub returns-in-34 : goal.returns-in-34
returns-in-34 c = begins.solid_told _ (code "\"") 24 c.in-34.is (omega arith) (omega arith) begins.quote_sign

pub returns-in-59 : goal.returns-in-59
returns-in-59 c = begins.solid_told _ (code ";") 7 c.in-59.is (omega arith) (omega arith) begins.semicolon_sign

pub returns-in-39 : goal.returns-in-39
returns-in-39 c = begins.solid_told _ (code "'") 159 c.in-39.is (omega arith) (omega arith) begins.tick

pub returns-in-44 : goal.returns-in-44
returns-in-44 c = begins.solid_told _ (code ",") 8 c.in-44.is (omega arith) (omega arith) begins.comma_sign

pub returns-in-124 : goal.returns-in-124
returns-in-124 c = begins.solid_told _ (code "|") 88 c.in-124.is (omega arith) (omega arith) begins.bar

pub returns-in-35 : goal.returns-in-35
returns-in-35 c = begins.solid_told _ (code "#") 9 c.in-35.is (omega arith) (omega arith) begins.hash_sign

pub returns-in-48-to-57 : goal.returns-in-48-to-57
returns-in-48-to-57 c =
    let b = c.args.b in
    begins.solid_told _ b 16 refl (omega arith) (omega arith) (begins.digit b c.in-48-to-57.if-b-lt48-own.false c.in-48-to-57.if-b-lt58-own.true)

pub returns-in-61-to-90 : goal.returns-in-61-to-90
returns-in-61-to-90 c =
    let b = c.args.b in
    begins.solid_told _ b 14 refl (omega arith) (omega arith) (begins.capital b c.in-61-to-90.if-b-lt61-own.false c.in-61-to-90.if-b-lt91-own.true)

pub returns-in-97-to-122 : goal.returns-in-97-to-122
returns-in-97-to-122 c =
    let b = c.args.b in
    begins.solid_told _ b 14 refl (omega arith) (omega arith) (begins.letter b c.in-97-to-122.if-b-lt97-own.false c.in-97-to-122.if-b-lt123-own.true)

pub returns-in_default : goal.returns-in_default
returns-in_default c = begins.none_told _

pub returns-in_default-2 : goal.returns-in_default-2
returns-in_default-2 c = begins.none_told _

pub returns-in_default-3 : goal.returns-in_default-3
returns-in_default-3 c = begins.none_told _

pub returns-in_default-4 : goal.returns-in_default-4
returns-in_default-4 c = begins.none_told _
