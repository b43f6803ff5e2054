-- Units by their shape: how many outputs a unit has and where it ends, from its counts alone; and marks, the places of every so many.
use Rattle.std.specs.Prelude.{ℕ, zero, suc, ◌+◌, ◌*◌, ◌/◌, ◌%◌, ◌≤◌, ◌<◌, ◌≡◌, List, length, get_or, set, take}
use Rattle.std.proofs.Common.{sym, ap, ◌∙◌, ⊎_elim, arith, eq-or-lt_of_le, div-add-mod', add-zero, length-set, get_or-set_same, get_or-set_other, get_or-take, length-take-le}
use Rattle.format.specs.declared.Width.{Width}
use Rattle.format.specs.declared.Width.TheVariants.{Short, Long}
use Rattle.format.specs.Fields.{size_of, value_by}

-- behind a unit's class and rate: the counts of its inputs and outputs, the special index, the inputs and the rates
unfoldable pub unit_counts : List ℕ → ℕ → ℕ
unit_counts s at = at + 2 + get_or s at 0

unfoldable pub unit_inputs : Width → List ℕ → ℕ → ℕ
unit_inputs w s at = value_by w s (unit_counts s at)

unfoldable pub unit_outputs : Width → List ℕ → ℕ → ℕ
unit_outputs w s at = value_by w s (unit_counts s at + size_of w)

-- an input is two indices
abbrev pub input_size : Width → ℕ
input_size w = 2 * size_of w

unfoldable pub unit_end : Width → List ℕ → ℕ → ℕ
unit_end w s at = unit_counts s at + 2 * size_of w + 2 + input_size w * unit_inputs w s at + unit_outputs w s at

pub size_most : (w : Width) → size_of w ≤ 4
size_most Short = omega arith
size_most Long = omega arith

-- where the unit number n starts, where the first one starts at a place
unfoldable pub unit_place : Width → List ℕ → ℕ → ℕ → ℕ
unit_place w s start zero = start
unit_place w s start (suc n) = unit_end w s (unit_place w s start n)

pub place_up : (w : Width) (s : List ℕ) (start u n : ℕ) → u ≤ n → unit_place w s start u ≤ unit_place w s start n
unfolding unit_place unit_end unit_counts
place_up w s start u zero h =
    let e : u ≡ 0 = omega arith in
    rw e (omega arith)
place_up w s start u (suc n) h =
    ⊎_elim
    (λ same. rw same (omega arith))
    (λ less. omega (arith, place_up w s start u n (omega arith)))
    (eq-or-lt_of_le h)

-- a unit behind another one
pub place_behind : (w : Width) (s : List ℕ) (start m n : ℕ) → unit_place w s (unit_place w s start m) n ≡ unit_place w s start (m + n)
unfolding unit_place
place_behind w s start m zero = ap (unit_place w s start) (sym (add-zero m))
place_behind w s start m (suc n) =
    let e : m + suc n ≡ suc (m + n) = omega arith in
    ap (unit_end w s) (place_behind w s start m n) ∙ rw e

-- how many counts and indices the first n units have: of each the counts of its inputs and outputs, and two indices of each input
unfoldable pub walked : Width → List ℕ → ℕ → ℕ → ℕ
walked w s start zero = 0
walked w s start (suc n) = walked w s start n + (2 + 2 * unit_inputs w s (unit_place w s start n))

-- each takes at least two bytes
pub walked_few : (w : Width) (s : List ℕ) (start n : ℕ) → start + 2 * walked w s start n ≤ unit_place w s start n
unfolding walked unit_place unit_end unit_counts
walked_few w s start zero = omega arith
walked_few Short s start (suc n) = omega (arith, walked_few Short s start n)
walked_few Long s start (suc n) = omega (arith, walked_few Long s start n)

-- the most marks of a definition
abbrev pub most_marks : ℕ
most_marks = 16384

-- where every so many units start, counted from the first one
pub record Marked (w : Width) (s : List ℕ) (start stride : ℕ) (marks : List ℕ) : Type 0 where
  pub steps : 0 < stride
  pub placed : (k : ℕ) → k < length marks → start + get_or marks k 0 ≡ unit_place w s start (k * stride)

-- a unit by its mark
pub mark_place : (w : Width) (s : List ℕ) (start stride : ℕ) (marks : List ℕ) (unit : ℕ) → Marked w s start stride marks → unit / stride < length marks
    → unit_place w s (start + get_or marks (unit / stride) 0) (unit % stride) ≡ unit_place w s start unit
mark_place w s start stride marks unit m h =
    ap (λ (p : ℕ). unit_place w s p (unit % stride)) (m.placed (unit / stride) h)
    ∙ place_behind w s start (unit / stride * stride) (unit % stride)
    ∙ ap (unit_place w s start) (div-add-mod' unit stride)

-- and it starts in the file
pub mark_within : (w : Width) (s : List ℕ) (start stride : ℕ) (marks : List ℕ) (unit : ℕ) → Marked w s start stride marks → unit / stride < length marks
    → start + get_or marks (unit / stride) 0 ≤ unit_place w s start unit
unfolding unit_place
mark_within w s start stride marks unit m h =
    rw (sym (mark_place w s start stride marks unit m h)) (place_up w s (start + get_or marks (unit / stride) 0) 0 (unit % stride) (omega arith))

-- what becomes of the marks at a unit: they are as before, or it has a mark, which is the next one
pub data Marking (marks marks' : List ℕ) (known stride unit place known' : ℕ) : Type 0 where
  as_before : known' ≡ known → marks' ≡ marks → Marking marks marks' known stride unit place known'
  one_more : known' ≡ known + 1 → marks' ≡ set marks known place → known * stride ≡ unit → known < length marks → Marking marks marks' known stride unit place known'

pub marking_same : {marks marks' : List ℕ} {known stride unit place known' : ℕ} → Marking marks marks' known stride unit place known' → length marks' ≡ length marks
marking_same (as_before e f) = ap length f
marking_same {marks} {known = known} {place = place} (one_more e f u l) = ap length f ∙ length-set marks known place

pub record Marks (w : Width) (s : List ℕ) (start stride : ℕ) (marks' : List ℕ) (known' : ℕ) : Type 0 where
  pub room : known' ≤ length marks'
  pub marked : Marked w s start stride (take known' marks')

pub marking_next : (w : Width) (s : List ℕ) (start : ℕ) {marks marks' : List ℕ} {known stride unit place known' : ℕ} → known ≤ length marks → start + place ≡ unit_place w s start unit
    → Marking marks marks' known stride unit place known' → Marked w s start stride (take known marks) → Marks w s start stride marks' known'
marking_next w s start h p (as_before e f) m = rw (e, f) record { room = h; marked = m }
marking_next w s start {marks} {marks'} {known} {stride} {unit} {place} h p (one_more e f u l) m =
    let size : length (set marks known place) ≡ length marks = length-set marks known place in
    rw (e, f) record {
      room = omega arith;
      marked = record {
        steps = m.steps;
        placed = λ k low.
            let many : length (take (known + 1) (set marks known place)) ≡ known + 1 = length-take-le (known + 1) (set marks known place) (omega arith) in
            let before : length (take known marks) ≡ known = length-take-le known marks h in
            let upto : k ≤ known = omega arith in
            let here : get_or (take (known + 1) (set marks known place)) k 0 ≡ get_or (set marks known place) k 0 = get_or-take (known + 1) (set marks known place) k 0 (omega arith) in
            ⊎_elim
            (λ last.
            ap (λ (n : ℕ). start + n) (here ∙ ap (λ (j : ℕ). get_or (set marks known place) j 0) last ∙ get_or-set_same marks known place 0 l)
            ∙ p
            ∙ ap (unit_place w s start) (sym u ∙ ap (λ (j : ℕ). j * stride) (sym last)))
            (λ less.
            ap (λ (n : ℕ). start + n) (here ∙ get_or-set_other marks known k place 0 (λ same. omega arith) ∙ sym (get_or-take known marks k 0 less))
            ∙ m.placed k (omega arith))
            (eq-or-lt_of_le upto);
      };
    }
