-- Writing a formed store's reading gives its contents back, byte for byte.
use Prim.{tt}
use Rattle.std.specs.Prelude.{ℕ, zero, suc, ◌+◌, ◌≤◌, Bool, refl, length, take, drop}
use Rattle.std.proofs.Math.Bool.{true, false}
use Rattle.std.proofs.Math.Path.{◌≡◌, sym, ap}
use Rattle.std.proofs.Common.{◌∙◌}
use mathlib.Core.List.{List, [], ◌∷◌, ◌++◌, append_assoc}
use native.Mathlib.Omega.{arith}
use Rattle.words.specs.Choice.{pick, both}
use Rattle.words.specs.ChoiceLaws.{both_true}
use Rattle.words.specs.Bytes.{AreBytes}
use Rattle.tagged.specs.Fields.{Field, head_size, size_in, is_cut, field_in, behind, write_field, write_fields}
use Rattle.tagged.specs.FieldsLaws.{field_back, behind_length, bytes_behind}
use Rattle.store.specs.Store.{closes, cut_field, fields_from, fields_of, entries_at, entries_of, in_place, may_follow, all_contents_formed, entries_formed, store_formed}
use Rattle.store.specs.Writing.{writing}
use Rattle.store.specs.Sizes.{AreEntries}
use Rattle.store.specs.ShapeLaws.{AreByteFields, FieldsFormed, entries_forth, entries_sized}

-- as many steps as there are bytes do
pub steps_enough : (m n : ℕ) (s : List ℕ) → length s ≤ m → length s ≤ n → fields_from m s ≡ fields_from n s
unfolding fields_from
steps_enough zero zero s h l = refl
steps_enough zero (suc n) [] h l = refl
steps_enough zero (suc n) (b ∷ s) h l = absurd (omega arith)
steps_enough (suc m) zero [] h l = refl
steps_enough (suc m) zero (b ∷ s) h l = absurd (omega arith)
steps_enough (suc m) (suc n) s h l =
    go (is_cut s) refl (λ e. steps_enough m n (behind s) (omega (arith, behind_length s e)) (omega (arith, behind_length s e)))
  where
    go : (t : Bool) → is_cut s ≡ t → (is_cut s ≡ false → fields_from m (behind s) ≡ fields_from n (behind s)) → fields_from (suc m) s ≡ fields_from (suc n) s
    go true e more = ap (λ (t : Bool). pick (closes s) [] (pick t (cut_field ∷ []) (field_in s ∷ fields_from m (behind s)))) e
        ∙ sym (ap (λ (t : Bool). pick (closes s) [] (pick t (cut_field ∷ []) (field_in s ∷ fields_from n (behind s)))) e)
    go false e more = ap (λ (fs : List Field). pick (closes s) [] (pick (is_cut s) (cut_field ∷ []) (field_in s ∷ fs))) (more e)

-- the fields of a store have bytes as their contents
bytes_front : (k : ℕ) (s : List ℕ) → AreBytes s → AreBytes (take k s)
bytes_front zero s h i = omega arith
bytes_front (suc k) [] h i = omega arith
bytes_front (suc k) (b ∷ s) h zero = h 0
bytes_front (suc k) (b ∷ s) h (suc i) = bytes_front k s (λ j. h (suc j)) i

chosen : (a b : Bool) (fs : List Field) → AreByteFields fs → AreByteFields (pick a [] (pick b (cut_field ∷ []) fs))
unfolding AreByteFields
chosen true b fs h = tt
chosen false true fs h = ((λ i. omega arith), tt)
chosen false false fs h = h

pub fields_bytes : (n : ℕ) (s : List ℕ) → AreBytes s → AreByteFields (fields_from n s)
unfolding AreByteFields fields_from
fields_bytes zero s h = tt
fields_bytes (suc n) s h =
    chosen (closes s) (is_cut s) (field_in s ∷ fields_from n (behind s))
    (bytes_front (size_in s) (drop head_size s) (bytes_behind s head_size h), fields_bytes n (behind s) (bytes_behind s (head_size + size_in s) h))

-- the contents of a store as fields, and what closes it
pub record FieldsStand (s : List ℕ) (fs : List Field) : Type 0 where
  pub rest : List ℕ
  pub split : s ≡ write_fields fs ++ rest
  pub closed : closes rest ≡ true

-- a field in place is not cut
module _ (n : ℕ) (s : List ℕ) (bytes : AreBytes s) where
  stand_by : (b : ℕ) (t u : Bool) → closes s ≡ t → is_cut s ≡ u
      → (is_cut s ≡ false → (k : ℕ) → in_place k (fields_from n (behind s)) ≡ true → FieldsStand (behind s) (fields_from n (behind s)))
      → in_place b (pick t [] (pick u (cut_field ∷ []) (field_in s ∷ fields_from n (behind s)))) ≡ true
      → FieldsStand s (pick t [] (pick u (cut_field ∷ []) (field_in s ∷ fields_from n (behind s))))
  unfolding write_fields in_place
  stand_by b true u e f again placed = record { rest = s; split = refl; closed = e }
  stand_by b false true e f again placed = absurd (no placed) where
    no : false ≡ true → ⊥
    no q = let z : ◌≡◌ {A = ℕ} 0 1 = cc in omega arith
  stand_by b false false e f again placed =
      let w = both_true (may_follow (field_in s).tag b) (in_place (field_in s).tag (fields_from n (behind s))) placed in
      let r = again f (field_in s).tag w.1 in
      record {
        rest = r.rest;
        split =
            sym (field_back s bytes f)
            ∙ ap (λ (l : List ℕ). write_field (field_in s) ++ l) r.split
            ∙ sym (append_assoc (write_field (field_in s)) (write_fields (fields_from n (behind s))) r.rest);
        closed = r.closed;
      }

pub fields_stand : (n : ℕ) (s : List ℕ) → length s ≤ n → AreBytes s → (b : ℕ) → in_place b (fields_from n s) ≡ true → FieldsStand s (fields_from n s)
unfolding fields_from write_fields
fields_stand zero [] h bytes b placed = record { rest = []; split = refl; closed = refl }
fields_stand zero (x ∷ s) h bytes b placed = absurd (omega arith)
fields_stand (suc n) s h bytes b placed =
    stand_by n s bytes b (closes s) (is_cut s) refl refl
    (λ e k p. fields_stand n (behind s) (omega (arith, behind_length s e)) (bytes_behind s (head_size + size_in s) bytes) k p) placed

-- a formed store: its entries as they are written, and then what closes it
pub record StoreStands (s : List ℕ) : Type 0 where
  pub rest : List ℕ
  pub split : s ≡ writing (entries_of s) ++ rest
  pub closed : closes rest ≡ true
  pub sized : AreEntries (entries_of s)
  pub formed : entries_formed (entries_of s) ≡ true

pub store_stands : (s : List ℕ) → AreBytes s → store_formed s ≡ true → StoreStands s
unfolding store_formed
store_stands s bytes h =
    let p = both_true (in_place 0 (fields_of s)) (both (all_contents_formed (fields_of s)) (entries_formed (entries_at (fields_of s)))) h in
    let q = both_true (all_contents_formed (fields_of s)) (entries_formed (entries_at (fields_of s))) p.1 in
    let stand : FieldsStand s (fields_of s) = fields_stand (length s) s (omega arith) bytes 0 p.0 in
    let fine : FieldsFormed 0 (fields_of s) = record { placed = p.0; formed = q.0; bytes = fields_bytes (length s) s bytes } in
    record {
      rest = stand.rest;
      split = stand.split ∙ ap (λ (fs : List Field). write_fields fs ++ stand.rest) (entries_forth (fields_of s) fine);
      closed = stand.closed;
      sized = entries_sized 0 (fields_of s) fine;
      formed = q.1;
    }
