-- The slots' bytes in the arena: what is put where a slot starts is read back as that slot, and the other slots stay.
use Prim.{Unit}
use Prim.Native.Nat.{ℕ, zero, suc, ◌+◌, ◌-◌, ◌≤◌, ◌<◌}
use Rattle.std.specs.Prelude.{Bool, ◌≡◌, length, get_or, set}
use Rattle.std.proofs.Math.Bool.{true, false}
use Rattle.std.proofs.Math.Path.{refl, ap₂}
use Rattle.std.proofs.Common.{sym, ap, ◌∙◌, arith, add-zero, length-take, length-drop, length-append, take-append-drop, drop_at, drop-drop, take-take, length-take-le}
use mathlib.Core.List.{List, [], ◌∷◌, ◌++◌, append_assoc}
use Rattle.std.proofs.Math.ListN.{take, drop}
use Rattle.std.proofs.Math.Seq.{drop-append-add, take-append-add}
use Rattle.std.proofs.Math.Dec.{eqb}
use Rattle.words.specs.Choice.{pick}
use Rattle.words.specs.Parts.{region, put}
use Rattle.words.specs.PartsLaws.{put_length, region_put, past_put, before_put}
use Rattle.format.specs.Reader.{size_limit}
use Rattle.model.specs.Layout.{start_of, slot_in}
use Rattle.model.specs.Engine.{Slot, slots_from, slot_at}
use Rattle.model.specs.After.{flags_of, lengths_of, put_bytes, arena_from}
use Rattle.slots.specs.Slots.{drop-take}

-- a slot has at most the bytes of the longest definition, and as many as its length says where that is no more
pub slot_most : (arena : List ℕ) (k size : ℕ) → length (slot_in arena k size) ≤ size_limit
slot_most arena k size = omega (arith, length-take size (region (start_of k) size_limit arena), length-take size_limit (drop (start_of k) arena))

pub slot_size : (arena : List ℕ) (k size : ℕ) → start_of (k + 1) ≤ length arena → size ≤ size_limit → length (slot_in arena k size) ≡ size
slot_size arena k size long fits =
    let a : length (slot_in arena k size) ≡ _ = length-take size (region (start_of k) size_limit arena) in
    let b = length-take size_limit (drop (start_of k) arena) in
    let c = length-drop (start_of k) arena in
    omega arith

-- the lists of a slot's words are as many as the slots
pub flags_length : (slots : List Slot) → length (flags_of slots) ≡ length slots
unfolding flags_of
flags_length [] = refl
flags_length (s ∷ slots) = ap suc (flags_length slots)

pub lengths_length : (slots : List Slot) (sizes : List ℕ) → length (lengths_of slots sizes) ≡ length slots
unfolding lengths_of
lengths_length [] sizes = refl
lengths_length (s ∷ slots) sizes = ap suc (lengths_length slots (drop 1 sizes))

-- a resident's bytes are at most those of the longest definition
abbrev pub Short : List Slot → Type 0
Short slots = (k : ℕ) → (slot_at slots k).resident ≡ true → length (slot_at slots k).bytes ≤ size_limit

-- one slot put in: the arena is as long, and what lies before it stays
module _ (k : ℕ) (s : Slot) (arena : List ℕ) (short : s.resident ≡ true → length s.bytes ≤ size_limit) (long : start_of (k + 1) ≤ length arena) where
  bytes_length : length (put_bytes k s arena) ≡ length arena
  bytes_length = by s.resident refl
    where
      by : (r : Bool) → s.resident ≡ r → length (pick r (put (start_of k) (length s.bytes) s.bytes arena) arena) ≡ length arena
      by true e = put_length (start_of k) (length s.bytes) s.bytes arena (omega (arith, short e)) refl
      by false e = refl

  bytes_before : (b : ℕ) → b ≤ start_of k → take b (put_bytes k s arena) ≡ take b arena
  bytes_before b h = by s.resident
    where
      by : (r : Bool) → take b (pick r (put (start_of k) (length s.bytes) s.bytes arena) arena) ≡ take b arena
      by true = before_put (start_of k) (length s.bytes) b s.bytes arena (omega arith) h
      by false = refl

  -- the slots behind it stay
  bytes_past : (j n : ℕ) (lengths flags : List ℕ) → k < j → slots_from j n lengths flags (put_bytes k s arena) ≡ slots_from j n lengths flags arena
  unfolding slots_from
  bytes_past j zero lengths flags h = refl
  bytes_past j (suc n) lengths flags h =
      ap₂ (λ (l : List ℕ) (more : List Slot). record { bytes = take (get_or lengths 0 0) (take size_limit l); resident = eqb (get_or flags 0 0) 1 } ∷ more)
      (by s.resident refl)
      (bytes_past (j + 1) n (drop 1 lengths) (drop 1 flags) (omega arith))
    where
      by : (r : Bool) → s.resident ≡ r → drop (start_of j) (pick r (put (start_of k) (length s.bytes) s.bytes arena) arena) ≡ drop (start_of j) arena
      by true e = past_put (start_of k) (length s.bytes) (start_of j) s.bytes arena (omega arith) refl (omega (arith, short e))
      by false e = refl

-- the slots from k on put in
pub arena-length : (k : ℕ) (slots : List Slot) (arena : List ℕ) → Short slots → start_of (k + length slots) ≤ length arena → length (arena_from k slots arena) ≡ length arena
unfolding arena_from
arena-length k [] arena short long = refl
arena-length k (s ∷ more) arena short long =
    let ih : length (arena_from (k + 1) more arena) ≡ length arena = arena-length (k + 1) more arena (λ j e. short (suc j) e) (omega arith) in
    bytes_length k s (arena_from (k + 1) more arena) (short 0) (omega arith) ∙ ih

arena_before : (k : ℕ) (slots : List Slot) (arena : List ℕ) → Short slots → start_of (k + length slots) ≤ length arena → (b : ℕ) → b ≤ start_of k
    → take b (arena_from k slots arena) ≡ take b arena
unfolding arena_from
arena_before k [] arena short long b h = refl
arena_before k (s ∷ more) arena short long b h =
    let size : length (arena_from (k + 1) more arena) ≡ length arena = arena-length (k + 1) more arena (λ j e. short (suc j) e) (omega arith) in
    bytes_before k s (arena_from (k + 1) more arena) (short 0) (omega arith) b h
    ∙ arena_before (k + 1) more arena (λ j e. short (suc j) e) (omega arith) b (omega arith)

-- the slot before them stays
slot_before : (k : ℕ) (more : List Slot) (arena : List ℕ) (size : ℕ) → Short more → start_of (k + 1 + length more) ≤ length arena
    → slot_in (arena_from (k + 1) more arena) k size ≡ slot_in arena k size
slot_before k more arena size short long =
    ap (λ (l : List ℕ). take size l)
    (sym (drop-take (start_of k) size_limit (arena_from (k + 1) more arena))
    ∙ ap (λ (l : List ℕ). drop (start_of k) l) (arena_before (k + 1) more arena short long (start_of k + size_limit) (omega arith))
    ∙ drop-take (start_of k) size_limit arena)

-- slots that can be put in over others: a resident's bytes fit its slot, and another's are the bytes that are there
unfoldable pub Backed : List Slot → List Slot → Type 0
Backed [] old = Unit {0}
Backed (s ∷ more) [] = ⊥
Backed (s ∷ more) (o ∷ old) = ((s.resident ≡ true → length s.bytes ≤ size_limit) × (s.resident ≡ false → s.bytes ≡ o.bytes)) × Backed more old

pub backed_short : (slots old : List Slot) → Backed slots old → Short slots
unfolding Backed
backed_short [] old b k e = omega arith
backed_short (s ∷ more) [] b k e = absurd b
backed_short (s ∷ more) (o ∷ old) b zero e = b.0.0 e
backed_short (s ∷ more) (o ∷ old) b (suc k) e = backed_short more old b.1 k e

-- one slot put in and read back
slot_back : (k : ℕ) (s : Slot) (size : ℕ) (arena : List ℕ) → start_of (k + 1) ≤ length arena
    → (s.resident ≡ true → length s.bytes ≤ size_limit) → (s.resident ≡ false → s.bytes ≡ slot_in arena k size)
    → slot_in (put_bytes k s arena) k (pick s.resident (length s.bytes) size) ≡ s.bytes
slot_back k s size arena long fits kept = by s.resident refl
  where
    by : (r : Bool) → s.resident ≡ r → slot_in (pick r (put (start_of k) (length s.bytes) s.bytes arena) arena) k (pick r (length s.bytes) size) ≡ s.bytes
    by true e =
        take-take (length s.bytes) size_limit (drop (start_of k) (put (start_of k) (length s.bytes) s.bytes arena)) (fits e)
        ∙ region_put (start_of k) (length s.bytes) s.bytes arena (omega arith) refl
    by false e = sym (kept e)

pub flag_back : (b : Bool) → eqb (pick b 1 0) 1 ≡ b
flag_back true = refl
flag_back false = refl

-- slots put in are read back
pub slots_back : (k n : ℕ) (slots : List Slot) (lengths flags arena : List ℕ) → length slots ≡ n → start_of (k + n) ≤ length arena → Backed slots (slots_from k n lengths flags arena)
    → slots_from k n (lengths_of slots lengths) (flags_of slots) (arena_from k slots arena) ≡ slots
unfolding slots_from lengths_of flags_of arena_from Backed
slots_back k zero [] lengths flags arena h long b = refl
slots_back k zero (s ∷ more) lengths flags arena h long b = absurd (omega arith)
slots_back k (suc n) [] lengths flags arena h long b = absurd (omega arith)
slots_back k (suc n) (s ∷ more) lengths flags arena h long b =
    let old = slots_from (k + 1) n (drop 1 lengths) (drop 1 flags) arena in
    let rest = arena_from (k + 1) more arena in
    let short = backed_short more old b.1 in
    let size : length rest ≡ length arena = arena-length (k + 1) more arena short (omega arith) in
    let ih : slots_from (k + 1) n (lengths_of more (drop 1 lengths)) (flags_of more) rest ≡ more =
    slots_back (k + 1) n more (drop 1 lengths) (drop 1 flags) arena (omega arith) (omega arith) b.1 in
    let there : s.resident ≡ false → s.bytes ≡ slot_in rest k (get_or lengths 0 0) =
    λ e. b.0.1 e ∙ sym (slot_before k more arena (get_or lengths 0 0) short (omega arith)) in
    ap₂ (λ (l : List ℕ) (more : List Slot). record { bytes = l; resident = eqb (pick s.resident 1 0) 1 } ∷ more)
    (slot_back k s (get_or lengths 0 0) rest (omega arith) b.0.0 there)
    (bytes_past k s rest b.0.0 (omega arith) (k + 1) n (lengths_of more (drop 1 lengths)) (flags_of more) (omega arith) ∙ ih)
    ∙ ap (λ (r : Bool). record { bytes = s.bytes; resident = r } ∷ more) (flag_back s.resident)

-- slots that lie there leave the arena as it is
slot_prefix : (n m : ℕ) (l : List ℕ) → take n (take m l) ++ drop (length (take n (take m l))) l ≡ l
slot_prefix zero m l = refl
slot_prefix (suc n) zero l = refl
slot_prefix (suc n) (suc m) [] = refl
slot_prefix (suc n) (suc m) (x ∷ l) = ap (λ (r : List ℕ). x ∷ r) (slot_prefix n m l)

pub arena_same : (k n : ℕ) (lengths flags arena : List ℕ) → arena_from k (slots_from k n lengths flags arena) arena ≡ arena
unfolding slots_from arena_from
arena_same k zero lengths flags arena = refl
arena_same k (suc n) lengths flags arena =
    ap (λ (l : List ℕ). put_bytes k s l) (arena_same (k + 1) n (drop 1 lengths) (drop 1 flags) arena) ∙ by s.resident
  where
    s : Slot
    s = record { bytes = slot_in arena k (get_or lengths 0 0); resident = eqb (get_or flags 0 0) 1 }

    by : (r : Bool) → pick r (put (start_of k) (length s.bytes) s.bytes arena) arena ≡ arena
    by true =
        ap (λ (l : List ℕ). take (start_of k) arena ++ l) (slot_prefix (get_or lengths 0 0) size_limit (drop (start_of k) arena))
        ∙ take-append-drop (start_of k) arena
    by false = refl

-- a run with a part put in, behind a first part
put_behind : (p q : List ℕ) (a k : ℕ) (ys : List ℕ) → put (length p + a) k ys (p ++ q) ≡ p ++ put a k ys q
put_behind p q a k ys =
    rw (take-append-add p q a, drop-append-add p q a) (append_assoc p (take a q) (ys ++ drop k (drop a q)))

-- two parts that lie apart are put in in either order
put_apart : (a k c m : ℕ) (ys zs ws : List ℕ) → a + k + c ≤ length ws → length ys ≡ k → put a k ys (put (a + k + c) m zs ws) ≡ put (a + k + c) m zs (put a k ys ws)
put_apart a k c m ys zs ws h e =
    let p = take (a + k) ws in
    let r = drop (a + k) ws in
    let size : length p ≡ a + k = length-take-le (a + k) ws (omega arith) in
    let q = take a ws ++ ys in
    let size' : length q ≡ a + k = length-append (take a ws) ys ∙ omega (arith, length-take-le a ws (omega arith)) in
    let whole : put (a + k + c) m zs ws ≡ p ++ put c m zs r =
    ap (λ (l : List ℕ). put (a + k + c) m zs l) (sym (take-append-drop (a + k) ws))
    ∙ ap (λ (n : ℕ). put (n + c) m zs (p ++ r)) (sym size)
    ∙ put_behind p r c m zs in
    let back : drop k (drop a (put (a + k + c) m zs ws)) ≡ put c m zs r =
    drop-drop k a (put (a + k + c) m zs ws) ∙ ap (λ (l : List ℕ). drop (a + k) l) whole ∙ drop_at p (put c m zs r) (a + k) size in
    let other : put a k ys ws ≡ q ++ r = ap (λ (l : List ℕ). take a ws ++ (ys ++ l)) (drop-drop k a ws) ∙ sym (append_assoc (take a ws) ys r) in
    ap₂ (λ (x y : List ℕ). x ++ (ys ++ y)) (before_put (a + k + c) m a zs ws (omega arith) (omega arith)) back
    ∙ sym (append_assoc (take a ws) ys (put c m zs r))
    ∙ sym (put_behind q r c m zs)
    ∙ ap₂ (λ (n : ℕ) (l : List ℕ). put (n + c) m zs l) size' (sym other)

-- a resident put into a slot that is not resident
pub arena_set : (k : ℕ) (slots : List Slot) (arena : List ℕ) (j : ℕ) (x : Slot) → Short slots → start_of (k + length slots) ≤ length arena → j < length slots
    → (slot_at slots j).resident ≡ false → x.resident ≡ true → length x.bytes ≤ size_limit
    → arena_from k (set slots j x) arena ≡ put (start_of (k + j)) (length x.bytes) x.bytes (arena_from k slots arena)
unfolding arena_from
arena_set k [] arena j x short long h free r fits = absurd (omega arith)
arena_set k (s ∷ more) arena zero x short long h free r fits = rw (r, free, add-zero)
arena_set k (s ∷ more) arena (suc j) x short long h free r fits =
    ap (λ (l : List ℕ). put_bytes k s l) (arena_set (k + 1) more arena j x (λ i e. short (suc i) e) (omega arith) (omega arith) free r fits)
    ∙ by s.resident refl
  where
    rest : List ℕ
    rest = arena_from (k + 1) more arena

    size : length rest ≡ length arena
    size = arena-length (k + 1) more arena (λ i e. short (suc i) e) (omega arith)

    at : k + 1 + j ≡ k + suc j
    at = omega arith

    by : (b : Bool) → s.resident ≡ b
        → pick b (put (start_of k) (length s.bytes) s.bytes (put (start_of (k + 1 + j)) (length x.bytes) x.bytes rest)) (put (start_of (k + 1 + j)) (length x.bytes) x.bytes rest)
        ≡ put (start_of (k + suc j)) (length x.bytes) x.bytes (pick b (put (start_of k) (length s.bytes) s.bytes rest) rest)
    by true e =
        let fits' = short 0 e in
        let between : start_of (k + 1 + j) ≡ start_of k + length s.bytes + (start_of (k + 1 + j) - (start_of k + length s.bytes)) = omega arith in
        let z : start_of (k + 1 + j) ≡ start_of (k + suc j) = ap start_of at in
        ap (λ (n : ℕ). put (start_of k) (length s.bytes) s.bytes (put n (length x.bytes) x.bytes rest)) between
        ∙ put_apart (start_of k) (length s.bytes) (start_of (k + 1 + j) - (start_of k + length s.bytes)) (length x.bytes) s.bytes x.bytes rest (omega (arith, size)) refl
        ∙ ap (λ (n : ℕ). put n (length x.bytes) x.bytes (put (start_of k) (length s.bytes) s.bytes rest)) (sym between ∙ z)
    by false e = ap (λ (n : ℕ). put (start_of n) (length x.bytes) x.bytes rest) at
