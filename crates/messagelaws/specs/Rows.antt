-- The rows of the table: each has a form, a message is found in one of them, and a message that a row wrote in that row.
use Rattle.std.specs.Prelude.{ℕ, zero, suc, ◌+◌, ◌<◌, ◌≡◌, refl, Bool, true, false, not, List, [], ◌∷◌, length, get_or, eqb}
use Rattle.std.proofs.Common.{sym, ap, ◌∙◌, add-zero, arith, eqb-true, eq-eqb}
use Rattle.std.proofs.Math.Option.{some}
use Rattle.words.specs.Choice.{pick, both, either}
use Rattle.words.specs.ChoiceLaws.{both_true}
use Rattle.format.specs.Fields.{name_bytes}
use Rattle.format.specs.Reader.{same_name}
use Rattle.format.specs.Bounds.{every}
use Rattle.order.specs.Same.{same_true, same_refl}
use Rattle.osc.specs.Message.{tags}
use Rattle.messages.specs.Form.{Message}
use Rattle.messages.specs.declared.Slot.{Slot}
use Rattle.messages.specs.declared.Slot.TheVariants.{NumberA, NumberB, NumberC, Value, Name, File}
use Rattle.messages.specs.Table.{Row, table, Given, takes, fit_all, take_all}
use Rattle.messages.specs.Receive.{bare, look_up}
use Rattle.messages.specs.Write.{row_from, row_of}
use Rattle.messagelaws.specs.Slots.{among, apart}

-- what holds of all rows holds of one
row_all : (test : Row → Bool) (rows : List Row) → every test rows ≡ true → (op : ℕ) (r : Row) → row_from rows op ≡ some r → test r ≡ true
unfolding every row_from
row_all test [] t op r e = cc
row_all test (x ∷ rows) t zero r e = cc
row_all test (x ∷ rows) t (suc zero) r e = let same : x ≡ r = cc in rw same at (both_true (test x) (every test rows) t).0
row_all test (x ∷ rows) t (suc (suc op)) r e = row_all test rows (both_true (test x) (every test rows) t).1 (suc op) r e

-- the place of a row
pub record Place (rows : List Row) (op : ℕ) : Type 0 where
  pub place : ℕ
  pub same : op ≡ suc place
  pub below : place < length rows

pub row_place : (rows : List Row) (op : ℕ) (r : Row) → row_from rows op ≡ some r → Place rows op
unfolding row_from
row_place [] op r e = let z : ◌≡◌ {A = ℕ} 0 1 = cc in absurd (omega arith)
row_place (x ∷ rows) zero r e = let z : ◌≡◌ {A = ℕ} 0 1 = cc in absurd (omega arith)
row_place (x ∷ rows) (suc zero) r e = record { place = 0; same = refl; below = omega arith }
row_place (x ∷ rows) (suc (suc op)) r e =
    let p = row_place rows (suc op) r e in
    record { place = suc p.place; same = ap suc p.same; below = omega arith }

-- an address is a string that begins with its slash, and the slots of a row stand for different parts of the call
abbrev fine : Row → Bool
fine r = both (eqb (get_or r.address 0 0) 47) (both (name_bytes r.address) (apart r.slots))

all_fine : every fine table ≡ true
unfolding every name_bytes among apart
all_fine = refl

pub record RowFormed (r : Row) : Type 0 where
  pub slash : get_or r.address 0 0 ≡ 47
  pub plain : name_bytes r.address ≡ true
  pub distinct : apart r.slots ≡ true

pub row_fine : (op : ℕ) (r : Row) → row_of op ≡ some r → RowFormed r
row_fine op r e =
    let t = both_true (eqb (get_or r.address 0 0) 47) _ (row_all fine table all_fine op r e) in
    let u = both_true (name_bytes r.address) (apart r.slots) t.1 in
    record { slash = eqb-true (get_or r.address 0 0) 47 t.0; plain = u.0; distinct = u.1 }

-- the row that a message is found in
pub record Found (op : ℕ) (rows : List Row) (m : Message) (g : Given) : Type 0 where
  pub place : ℕ
  pub row : Row
  pub there : row_from rows (suc place) ≡ some row
  pub address : m.address ≡ row.address
  pub fit : fit_all row.slots (tags m.arguments) ≡ true
  pub call : take_all row.slots m.arguments (bare (op + place)) ≡ g

pub look_found : (op : ℕ) (rows : List Row) (m : Message) (g : Given) → look_up op rows m ≡ some g → Found op rows m g
unfolding look_up row_from
look_found op [] m g e = let z : ◌≡◌ {A = ℕ} 0 1 = cc in absurd (omega arith)
look_found op (r ∷ rows) m g e = by (both (same_name m.address r.address) (fit_all r.slots (tags m.arguments))) refl e (look_found (suc op) rows m g)
  where
    by : (b : Bool) → both (same_name m.address r.address) (fit_all r.slots (tags m.arguments)) ≡ b
        → pick b (some (take_all r.slots m.arguments (bare op))) (look_up (suc op) rows m) ≡ some g
        → (look_up (suc op) rows m ≡ some g → Found (suc op) rows m g)
        → Found op (r ∷ rows) m g
    by true t e ih =
        let u = both_true (same_name m.address r.address) (fit_all r.slots (tags m.arguments)) t in
        let call : take_all r.slots m.arguments (bare op) ≡ g = cc in
        record {
          place = 0;
          row = r;
          there = refl;
          address = same_true m.address r.address u.0;
          fit = u.1;
          call = rw add-zero call;
        }
    by false t e ih =
        let f = ih e in
        let next : op + suc f.place ≡ suc op + f.place = omega arith in
        record {
          place = suc f.place;
          row = f.row;
          there = f.there;
          address = f.address;
          fit = f.fit;
          call = ap (λ (k : ℕ). take_all f.row.slots m.arguments (bare k)) next ∙ f.call;
        }

-- slots by the kind of what they take: a number, a string, a blob
abbrev kind : Slot → ℕ
kind NumberA = 105
kind NumberB = 105
kind NumberC = 105
kind Value = 105
kind Name = 115
kind File = 98

abbrev kind_of : ℕ → ℕ
kind_of tag = pick (eqb tag 102) 105 tag

kind_taken : (slot : Slot) (tag : ℕ) → takes slot tag ≡ true → kind_of tag ≡ kind slot
kind_taken NumberA tag h = rw (eqb-true tag 105 h)
kind_taken NumberB tag h = rw (eqb-true tag 105 h)
kind_taken NumberC tag h = rw (eqb-true tag 105 h)
kind_taken Value tag h = by (eqb tag 102) h
  where
    by : (b : Bool) → either b (eqb tag 105) ≡ true → pick b 105 tag ≡ 105
    by true h = refl
    by false h = eqb-true tag 105 h
kind_taken Name tag h = rw (eqb-true tag 115 h)
kind_taken File tag h = rw (eqb-true tag 98 h)

-- slots that the same tags may fit
unfoldable alike : List Slot → List Slot → Bool
alike [] [] = true
alike [] (t ∷ ts) = false
alike (s ∷ ss) [] = false
alike (s ∷ ss) (t ∷ ts) = both (eqb (kind s) (kind t)) (alike ss ts)

both_fit : (ss ts : List Slot) (l : List ℕ) → fit_all ss l ≡ true → fit_all ts l ≡ true → alike ss ts ≡ true
unfolding fit_all alike
both_fit [] [] l f g = refl
both_fit [] (t ∷ ts) [] f g = cc
both_fit [] (t ∷ ts) (k ∷ l) f g = cc
both_fit (s ∷ ss) [] [] f g = cc
both_fit (s ∷ ss) [] (k ∷ l) f g = cc
both_fit (s ∷ ss) (t ∷ ts) [] f g = cc
both_fit (s ∷ ss) (t ∷ ts) (k ∷ l) f g =
    let p = both_true (takes s k) (fit_all ss l) f in
    let q = both_true (takes t k) (fit_all ts l) g in
    rw (eq-eqb (kind s) (kind t) (sym (kind_taken s k p.0) ∙ kind_taken t k q.0)) (both_fit ss ts l p.1 q.1)

-- no message fits two rows
abbrev unlike : Row → Row → Bool
unlike x r = not (both (same_name r.address x.address) (alike x.slots r.slots))

unfoldable all_unlike : List Row → Bool
all_unlike [] = true
all_unlike (r ∷ rows) = both (every (unlike r) rows) (all_unlike rows)

table_unlike : all_unlike table ≡ true
unfolding every same_name alike all_unlike
table_unlike = refl

other_row : (x r : Row) (address ts : List ℕ) → unlike x r ≡ true → address ≡ r.address → fit_all r.slots ts ≡ true
    → both (same_name address x.address) (fit_all x.slots ts) ≡ false
other_row x r address ts u a f = by (same_name address x.address) refl (fit_all x.slots ts) refl
  where
    by : (p : Bool) → same_name address x.address ≡ p → (q : Bool) → fit_all x.slots ts ≡ q → both p q ≡ false
    by true e true g =
        let named : same_name r.address x.address ≡ true = rw a at e in
        let v = rw (named, both_fit x.slots r.slots ts g f) at u in
        cc
    by true e false g = refl
    by false e q g = refl

own_row : (op : ℕ) (rows : List Row) (m : Message) (k : ℕ) (r : Row) → all_unlike rows ≡ true → row_from rows (suc k) ≡ some r → m.address ≡ r.address
    → fit_all r.slots (tags m.arguments) ≡ true
    → look_up op rows m ≡ some (take_all r.slots m.arguments (bare (op + k)))
unfolding look_up row_from all_unlike
own_row op [] m k r d e a f = cc
own_row op (x ∷ rows) m zero r d e a f =
    let same : x ≡ r = cc in
    rw (same, a, same_refl r.address, f, add-zero)
own_row op (x ∷ rows) m (suc k) r d e a f =
    let t = both_true (every (unlike x) rows) (all_unlike rows) d in
    let next : suc op + k ≡ op + suc k = omega arith in
    rw (other_row x r m.address (tags m.arguments) (row_all (unlike x) rows t.0 (suc k) r e) a f)
    (own_row (suc op) rows m k r t.1 e a f ∙ ap (λ (j : ℕ). some (take_all r.slots m.arguments (bare j))) next)

-- a message of a row is looked up in that row
pub look-own : (m : Message) (op : ℕ) (r : Row) → row_of op ≡ some r → m.address ≡ r.address → fit_all r.slots (tags m.arguments) ≡ true
    → look_up 1 table m ≡ some (take_all r.slots m.arguments (bare op))
look-own m op r e a f =
    let p = row_place table op r e in
    let same : 1 + p.place ≡ op = omega (arith, p.same) in
    own_row 1 table m p.place r table_unlike (rw p.same at e) a f ∙ ap (λ (j : ℕ). some (take_all r.slots m.arguments (bare j))) same
