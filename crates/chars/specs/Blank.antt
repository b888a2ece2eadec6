-- Document 01: "blank is Unicode White_Space: U+0009..000D, 0020, 0085, 00A0, 1680, 2000..200A, 2028, 2029, 202F, 205F, 3000".
use Rattle.std.specs.Prelude.{ℕ, Bool, List, [], ◌∷◌, ◌++◌}
use Rattle.laws.specs.Quoted.{one_of}

abbrev pub blanks : List ℕ
blanks =
    (0x0009 ∷ 0x000A ∷ 0x000B ∷ 0x000C ∷ 0x000D ∷ [])
    ++ (0x0020 ∷ 0x0085 ∷ 0x00A0 ∷ 0x1680 ∷ [])
    ++ (0x2000 ∷ 0x2001 ∷ 0x2002 ∷ 0x2003 ∷ 0x2004 ∷ 0x2005 ∷ 0x2006 ∷ 0x2007 ∷ 0x2008 ∷ 0x2009 ∷ 0x200A ∷ [])
    ++ (0x2028 ∷ 0x2029 ∷ 0x202F ∷ 0x205F ∷ 0x3000 ∷ [])

unfoldable pub is_blank : ℕ → Bool
is_blank c = one_of blanks c
