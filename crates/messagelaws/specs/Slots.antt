-- The slots of a row: what is given to them is taken from them again, and the other way round.
use Rattle.std.specs.Prelude.{ℕ, ◌≡◌, refl, Bool, true, false, not, List, [], ◌∷◌, length, eqb}
use Rattle.std.proofs.Common.{ap₂, ◌∙◌, le-ltb, ltb-false}
use Rattle.std.proofs.lemmas.Bool.{not-true, not-false}
use Rattle.words.specs.Choice.{pick, both, either}
use Rattle.words.specs.ChoiceLaws.{both_true, either_false}
use Rattle.format.specs.Fields.{name_bytes, highest32}
use Rattle.osc.specs.Message.{Argument, int, float, text, blob, tag_of, tags}
use Rattle.messages.specs.declared.Slot.{Slot}
use Rattle.messages.specs.declared.Slot.TheVariants.{NumberA, NumberB, NumberC, Value, Name, File}
use Rattle.messages.specs.Table.{Given, Words, takes, number_in, bytes_in, take, give, fit_all, take_all, give_all}
use Rattle.messages.specs.Write.{unfit, any_unfit}
use Rattle.messagelaws.specs.Arguments.{Well, AllWell}

-- a number, a string, a blob by their tags
int_of : (x : Argument) → eqb (tag_of x) 105 ≡ true → int (number_in x) ≡ x
int_of (int n) h = refl
int_of (float p) h = cc
int_of (text s) h = cc
int_of (blob s) h = cc

text_of : (x : Argument) → eqb (tag_of x) 115 ≡ true → text (bytes_in x) ≡ x
text_of (int n) h = cc
text_of (float p) h = cc
text_of (text s) h = refl
text_of (blob s) h = cc

blob_of : (x : Argument) → eqb (tag_of x) 98 ≡ true → blob (bytes_in x) ≡ x
blob_of (int n) h = cc
blob_of (float p) h = cc
blob_of (text s) h = cc
blob_of (blob s) h = refl

value_of : (x : Argument) → either (eqb (tag_of x) 102) (eqb (tag_of x) 105) ≡ true → (g : Given) → give Value (take Value x g) ≡ x
value_of (int n) h g = refl
value_of (float p) h g = refl
value_of (text s) h g = cc
value_of (blob s) h g = cc

-- what a slot takes it gives
give-take : (slot : Slot) (x : Argument) (g : Given) → takes slot (tag_of x) ≡ true → give slot (take slot x g) ≡ x
give-take NumberA x g h = int_of x h
give-take NumberB x g h = int_of x h
give-take NumberC x g h = int_of x h
give-take Value x g h = value_of x h g
give-take Name x g h = text_of x h
give-take File x g h = blob_of x h

-- which part of the call a slot stands for: the name and the file are one
abbrev part : Slot → ℕ
part NumberA = 1
part NumberB = 2
part NumberC = 3
part Value = 4
part Name = 5
part File = 5

-- a slot keeps what it gives where another takes
give_kept : (slot other : Slot) (x : Argument) (g : Given) → eqb (part slot) (part other) ≡ false → give slot (take other x g) ≡ give slot g
give_kept NumberA NumberA x g h = cc
give_kept NumberA NumberB x g h = refl
give_kept NumberA NumberC x g h = refl
give_kept NumberA Value x g h = refl
give_kept NumberA Name x g h = refl
give_kept NumberA File x g h = refl
give_kept NumberB NumberA x g h = refl
give_kept NumberB NumberB x g h = cc
give_kept NumberB NumberC x g h = refl
give_kept NumberB Value x g h = refl
give_kept NumberB Name x g h = refl
give_kept NumberB File x g h = refl
give_kept NumberC NumberA x g h = refl
give_kept NumberC NumberB x g h = refl
give_kept NumberC NumberC x g h = cc
give_kept NumberC Value x g h = refl
give_kept NumberC Name x g h = refl
give_kept NumberC File x g h = refl
give_kept Value NumberA x g h = refl
give_kept Value NumberB x g h = refl
give_kept Value NumberC x g h = refl
give_kept Value Value x g h = cc
give_kept Value Name x g h = refl
give_kept Value File x g h = refl
give_kept Name NumberA x g h = refl
give_kept Name NumberB x g h = refl
give_kept Name NumberC x g h = refl
give_kept Name Value x g h = refl
give_kept Name Name x g h = cc
give_kept Name File x g h = cc
give_kept File NumberA x g h = refl
give_kept File NumberB x g h = refl
give_kept File NumberC x g h = refl
give_kept File Value x g h = refl
give_kept File Name x g h = cc
give_kept File File x g h = cc

-- slots that stand for different parts
unfoldable pub among : ℕ → List Slot → Bool
among k [] = false
among k (slot ∷ slots) = either (eqb k (part slot)) (among k slots)

unfoldable pub apart : List Slot → Bool
apart [] = true
apart (slot ∷ slots) = both (not (among (part slot) slots)) (apart slots)

give_kept_all : (slot : Slot) (slots : List Slot) (xs : List Argument) (g : Given) → among (part slot) slots ≡ false → give slot (take_all slots xs g) ≡ give slot g
unfolding among take_all
give_kept_all slot [] xs g h = refl
give_kept_all slot (other ∷ slots) [] g h = refl
give_kept_all slot (other ∷ slots) (x ∷ xs) g h =
    let t = either_false (eqb (part slot) (part other)) (among (part slot) slots) h in
    give_kept_all slot slots xs (take other x g) t.1 ∙ give_kept slot other x g t.0

-- arguments that fit the slots are given back as they were taken
pub give_all_taken : (slots : List Slot) (xs : List Argument) (g : Given) → apart slots ≡ true → fit_all slots (tags xs) ≡ true → give_all slots (take_all slots xs g) ≡ xs
unfolding apart fit_all tags take_all give_all
give_all_taken [] [] g a h = refl
give_all_taken [] (x ∷ xs) g a h = cc
give_all_taken (slot ∷ slots) [] g a h = cc
give_all_taken (slot ∷ slots) (x ∷ xs) g a h =
    let t = both_true (takes slot (tag_of x)) (fit_all slots (tags xs)) h in
    let u = both_true (not (among (part slot) slots)) (apart slots) a in
    ap₂ (λ (y : Argument) (ys : List Argument). y ∷ ys)
    (give_kept_all slot slots xs (take slot x g) (not-true (among (part slot) slots) u.0) ∙ give-take slot x g t.0)
    (give_all_taken slots xs (take slot x g) u.1 t.1)

-- what is given fits
takes_given : (slot : Slot) (g : Given) → takes slot (tag_of (give slot g)) ≡ true
takes_given NumberA g = refl
takes_given NumberB g = refl
takes_given NumberC g = refl
takes_given Value g = by (eqb g.numbers.d 0)
  where
    by : (b : Bool) → takes Value (tag_of (pick b (float g.numbers.e) (int g.numbers.e))) ≡ true
    by true = refl
    by false = refl
takes_given Name g = refl
takes_given File g = refl

pub given_fits : (slots : List Slot) (g : Given) → fit_all slots (tags (give_all slots g)) ≡ true
unfolding fit_all tags give_all
given_fits [] g = refl
given_fits (slot ∷ slots) g = rw (takes_given slot g) (given_fits slots g)

-- what the writer accepts is well, and what is well it accepts
well_given : (slot : Slot) (g : Given) → Words g.numbers → unfit g.bytes slot ≡ false → Well (give slot g)
well_given NumberA g w h = w.a
well_given NumberB g w h = w.b
well_given NumberC g w h = w.c
well_given Value g w h = by (eqb g.numbers.d 0)
  where
    by : (b : Bool) → Well (pick b (float g.numbers.e) (int g.numbers.e))
    by true = w.e
    by false = w.e
well_given Name g w h = not-false (name_bytes g.bytes) h
well_given File g w h = ltb-false highest32 (length g.bytes) h

pub all_well : (slots : List Slot) (g : Given) → Words g.numbers → any_unfit g.bytes slots ≡ false → AllWell (give_all slots g)
unfolding any_unfit AllWell give_all
all_well [] g w h = tt
all_well (slot ∷ slots) g w h =
    let t = either_false (unfit g.bytes slot) (any_unfit g.bytes slots) h in
    (well_given slot g w t.0, all_well slots g w t.1)

fit_given : (slot : Slot) (g : Given) → Well (give slot g) → unfit g.bytes slot ≡ false
fit_given NumberA g w = refl
fit_given NumberB g w = refl
fit_given NumberC g w = refl
fit_given Value g w = refl
fit_given Name g w = rw w
fit_given File g w = le-ltb highest32 (length g.bytes) w

pub none_unfit : (slots : List Slot) (g : Given) → AllWell (give_all slots g) → any_unfit g.bytes slots ≡ false
unfolding any_unfit AllWell give_all
none_unfit [] g w = refl
none_unfit (slot ∷ slots) g w = rw (fit_given slot g w.0) (none_unfit slots g w.1)
