-- What the answers to a party may depend on, its own half being given: the definitions of docs/NAMES.md, "What each party can learn".
use Rattle.std.specs.Prelude.{ℕ, ◌+◌, ◌-◌, ◌*◌, Bool, true, false, List, [], ◌∷◌, ◌++◌, eqb, ltb, leb, length, if◌then◌else◌, None, Option, Some}
use Rattle.refusal.specs.Refusals.{no_room}
use Rattle.names.specs.Layout.{half_names, half_bytes}
use Rattle.names.specs.Call.{enter_of}
use Rattle.names.specs.Book.{Name, Book, half, place, size, ask, Call}
use Rattle.names.specs.Answers.{Told, Number, Refused}

-- whether a name is one of a half's names
abbrev pub present : List Name → Name → Bool
present l n = ltb (place n l) (length l)

-- the number that a name has among the names of party q, if it is one of them: all that party p is told of the other's names
abbrev pub seen : ℕ → List Name → Name → Option ℕ
seen q l n = if present l n then Some (q * half_names + place n l) else None

-- whether a half has an entry and the bytes for a name
abbrev pub room : List Name → Name → Bool
room own n = if ltb (length own) half_names then leb (size own + length n) half_bytes else false

-- the answer to a name that is new to both: the own names alone decide it
abbrev pub new_answer : ℕ → List Name → Name → Told
new_answer p own n = if room own n then Number (p * half_names + length own) else Refused no_room

abbrev pub told_or : Option ℕ → Told → Told
told_or (Some k) a = Number k
told_or None a = a

-- the answer to party p: by its own names alone where the name is one of them; else the number that the name has among the other's names;
-- else by the own names alone again
abbrev pub answer_of : ℕ → List Name → Option ℕ → Name → Told
answer_of p own other n = if present own n then Number (p * half_names + place n own) else told_or other (new_answer p own n)

-- the own names after the call: of the other's names it matters only whether the name is one of them
abbrev pub own_after : List Name → Bool → Name → List Name
own_after own other n = if present own n then own else if other then own else if room own n then own ++ (n ∷ []) else own

-- the answers that party p gets among calls one after the other
unfoldable pub answers_to : ℕ → Book → List Call → List Told
answers_to p b [] = []
answers_to p b (c ∷ cs) =
    let more = answers_to p (ask b c.party c.name).after cs in
    let answer = (ask b c.party c.name).answer in
    if eqb c.party p then answer ∷ more else more

-- the same in lent memory
unfoldable pub answers_in : ℕ → List ℕ → List ℕ → List Call → List Told
answers_in p w b [] = []
answers_in p w b (c ∷ cs) =
    let o = enter_of w b c.party c.name in
    let more = answers_in p o.words o.bytes cs in
    let answer = o.answer in
    if eqb c.party p then answer ∷ more else more

-- the calls of party p among them
unfoldable pub calls_of : ℕ → List Call → List Call
calls_of p [] = []
calls_of p (c ∷ cs) = let more = calls_of p cs in if eqb c.party p then c ∷ more else more

-- whether none of them asks for a name that the other party has entered by then
unfoldable pub strangers : ℕ → Book → List Call → Bool
strangers p b [] = true
strangers p b (c ∷ cs) =
    let more = strangers p (ask b c.party c.name).after cs in
    if eqb c.party p then (if present (half b (1 - p)) c.name then false else more) else more
