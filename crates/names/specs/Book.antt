-- What the table means: the names that each party entered first, in order; and a call on that. This is the request's text.
use Rattle.std.specs.Prelude.{ℕ, zero, suc, ◌+◌, ◌*◌, ◌/◌, ◌%◌, List, [], ◌∷◌, ◌++◌, ltb, leb, length, get_or, if◌then◌else◌, None, Option, Some}
use Rattle.laws.specs.Texts.{same}
use Rattle.refusal.specs.Refusals.{no_party, no_room, no_name}
use Rattle.names.specs.Layout.{half_names, half_bytes, table_names, count, name_at}
use Rattle.names.specs.Call.{enter_of}
use Rattle.names.specs.Answers.{Told, Number, Refused}

abbrev pub Name : Type 0
Name = List ℕ

-- the names first entered by party 0 and by party 1
pub record Book : Type 0 where
  pub planner : List Name
  pub contractor : List Name

abbrev pub book : List Name → List Name → Book
book x y = record { planner = x; contractor = y }

abbrev pub half : Book → ℕ → List Name
half b zero = b.planner
half b (suc p) = b.contractor

-- how many names stand before the first that equals this one; all of them if none does
unfoldable pub place : Name → List Name → ℕ
place n [] = 0
place n (x ∷ xs) = let more = suc (place n xs) in if same x n then 0 else more

unfoldable pub size : List Name → ℕ
size [] = 0
size (x ∷ xs) = length x + size xs

-- a name's number, whoever asks: its place, plus 512 in the half of party 1
unfoldable pub number_in : Book → Name → Option ℕ
number_in b n =
    if ltb (place n b.planner) (length b.planner)
    then Some (place n b.planner)
    else if ltb (place n b.contractor) (length b.contractor) then Some (half_names + place n b.contractor) else None

abbrev pub added : Book → ℕ → Name → Book
added b zero n = book (b.planner ++ (n ∷ [])) b.contractor
added b (suc p) n = book b.planner (b.contractor ++ (n ∷ []))

pub record Reply : Type 0 where
  pub answer : Told
  pub after : Book

abbrev pub reply : Told → Book → Reply
reply a b = record { answer = a; after = b }

-- a new name gets the count of names in its half, plus 512 for party 1; 36: the own half lacks the entry or the bytes
unfoldable pub new_in : Book → ℕ → Name → Reply
new_in b p n =
    if ltb (length (half b p)) half_names
    then (if leb (size (half b p) + length n) half_bytes
    then reply (Number (p * half_names + length (half b p))) (added b p n)
    else reply (Refused no_room) b)
    else reply (Refused no_room) b

abbrev pub answered : Option ℕ → Book → ℕ → Name → Reply
answered (Some k) b p n = reply (Number k) b
answered None b p n = new_in b p n

-- party p asks for the number of n; 35: a party other than 0 or 1
unfoldable pub ask : Book → ℕ → Name → Reply
ask b p n = if ltb p 2 then answered (number_in b n) b p n else reply (Refused no_party) b

-- a number's name: 37, with an empty name, where there is no such number
unfoldable pub mark_in : Book → ℕ → ℕ
mark_in b k =
    if ltb k table_names then (if ltb (k % half_names) (length (half b (k / half_names))) then 0 else no_name) else no_name

unfoldable pub name_in : Book → ℕ → Name
name_in b k =
    if ltb k table_names
    then (if ltb (k % half_names) (length (half b (k / half_names))) then get_or (half b (k / half_names)) (k % half_names) [] else [])
    else []

-- calls one after the other
pub record Call : Type 0 where
  pub party : ℕ
  pub name : Name

unfoldable pub asks : Book → List Call → Book
asks b [] = b
asks b (c ∷ cs) = asks (ask b c.party c.name).after cs

-- the first n names of a half in lent memory
unfoldable pub first_names : List ℕ → List ℕ → ℕ → ℕ → List Name
first_names w b p zero = []
first_names w b p (suc n) = first_names w b p n ++ (name_at w b p n ∷ [])

abbrev pub names_of : List ℕ → List ℕ → ℕ → List Name
names_of w b p = first_names w b p (count w p)

-- what lent memory means
abbrev pub book_of : List ℕ → List ℕ → Book
book_of w b = book (names_of w b 0) (names_of w b 1)

-- lent memory after calls
pub record Memory : Type 0 where
  pub words : List ℕ
  pub bytes : List ℕ

abbrev pub memory : List ℕ → List ℕ → Memory
memory w b = record { words = w; bytes = b }

unfoldable pub calls : List ℕ → List ℕ → List Call → Memory
calls w b [] = memory w b
calls w b (c ∷ cs) = calls (enter_of w b c.party c.name).words (enter_of w b c.party c.name).bytes cs
