-- The index in words, beside the words of the table: what the functions ask of them, and the steps of a lookup.
use Rattle.std.specs.Prelude.{ℕ, zero, suc, ◌+◌, ◌*◌, ◌≤◌, ◌<◌, true, ◌≡◌, refl, List, length, take, drop, get_or, IfSome, unwrap_or}
use Rattle.std.proofs.Common.{sym, ap₂, subst, ◌∙◌, arith, add-one, get_or-drop, get_or-take, length-take-le}
use Rattle.std.proofs.Math.Path.{ap}
use Rattle.nodes.specs.declared.Node.{Node}
use Rattle.nodes.specs.Table.{width, rows, numbers}
use Rattle.nodes.specs.TableLaws.{rows-length}
use Rattle.index.specs.declared.step.Known.{Known}
use Rattle.index.specs.declared.step.Known.TheVariants.{Between, Found}
use Rattle.index.specs.Index.{number_at, indexed}
use Rattle.index.specs.Rising.{entry, higher}
use Rattle.index.specs.Nodes.{indexed_parts}
use Rattle.index.specs.Lookup.{halfway, step, after_steps, lookup, answer, found_place, settled, most_steps, SettledBy}
use Rattle.index.specs.LookupLaws.{step_at, Sound, one_more, lookup_sound, steps_settle, settled_early}

-- words that hold so many records, and words that hold as many entries
pub record IndexFits (us ws : List ℕ) (count : ℕ) : Type 0 where
  pub room : width * count ≤ length us
  pub few : count ≤ 256
  pub entries : count ≤ length ws

-- the same, where the entries keep the rule
pub record Keeps (us ws : List ℕ) (count : ℕ) : Type 0 where
  pub room : width * count ≤ length us
  pub few : count ≤ 256
  pub entries : count ≤ length ws
  pub rule : indexed (take count ws) (rows count us) ≡ true

-- a stored number, by its word
pub number_word : (n : ℕ) (us : List ℕ) (p : ℕ) → p < n → number_at (numbers (rows n us)) p ≡ get_or us (width * p) 0
unfolding rows numbers
number_word zero us p h = absurd (omega arith)
number_word (suc n) us zero h = refl
number_word (suc n) us (suc p) h =
    let more : width + width * p ≡ width * suc p = omega arith in
    number_word n (drop width us) p (omega arith) ∙ get_or-drop width us (width * p) 0 ∙ ap (λ (k : ℕ). get_or us k 0) more

-- what is answered, with the count where there is no place
pub answer_or : (count : ℕ) (k : Known) → unwrap_or (found_place k) count ≡ answer count k
answer_or count (Between low high) = refl
answer_or count (Found p) = refl

-- a lookup in words that keep the rule
module _ (us ws : List ℕ) (count : ℕ) (keeps : Keeps us ws count) where
  pub entry_below : (i : ℕ) → i < count → get_or ws i 0 < count
  entry_below i h =
      let e = (entry (indexed_parts (take count ws) (rows count us) keeps.rule).1 i (rw (length-take-le count ws keeps.entries) h)).0 in
      let size = rows-length count us in
      let word = get_or-take count ws i 0 h in
      omega arith

  abbrev ix : List ℕ
  ix = take count ws

  abbrev nodes : List Node
  nodes = rows count us

  small : length nodes ≤ 256
  small = omega (arith, rows-length count us, keeps.few)

  -- before the first step of the lookup of n
  pub first_known : (n : ℕ) → Between 0 count ≡ lookup 0 n ix nodes
  unfolding after_steps
  first_known n = ap (Between 0) (sym (rows-length count us))

  -- what is known after so many of them
  module _ (n made : ℕ) (k : Known) (is : k ≡ lookup made n ix nodes) where
    -- where nothing is open, it is what ten steps say
    pub ends : made ≤ most_steps → settled k ≡ true → SettledBy most_steps n ix nodes (unwrap_or (found_place k) count)
    ends few e =
        subst (SettledBy most_steps n ix nodes)
        (sym (answer_or count k ∙ ap₂ answer (sym (rows-length count us)) is))
        (settled_early n ix nodes keeps.rule made few (ap settled (sym is) ∙ e) small)

    -- and a place that was found is one of the nodes'
    pub found_below : (p : ℕ) → k ≡ Found p → p < count
    found_below p found =
        let b = indexed_parts ix nodes keeps.rule in
        let e = lookup_sound n ix (numbers nodes) (length nodes) ((λ i h. (entry b.1 i h).0), higher b.1) made in
        let s = subst (Sound n ix (numbers nodes) (length nodes)) (sym is ∙ found) (rw b.0 at e) in
        omega (arith, s.0, rows-length count us)

    -- the same, of what the code answers
    pub says_below : IfSome (found_place k) (λ p. p < count)
    says_below = go k found_below
      where
        go : (j : Known) → ((p : ℕ) → j ≡ Found p → p < count) → IfSome (found_place j) (λ p. p < count)
        go (Between low high) h = tt
        go (Found p) h = h p refl

    -- from nine steps on nothing is open
    pub none_open : 9 ≤ made → settled k ≡ true
    none_open h = ap settled is ∙ steps_settle n ix nodes keeps.rule made h small

  -- where entries are left
  module _ (n made low high : ℕ) (is : Between low high ≡ lookup made n ix nodes) (some : low < high) where
    -- the one that the next step looks at is one of them
    pub middle_inside : halfway low high < count
    middle_inside =
        let b = indexed_parts ix nodes keeps.rule in
        let e = lookup_sound n ix (numbers nodes) (length nodes) ((λ i h. (entry b.1 i h).0), higher b.1) made in
        let s = subst (Sound n ix (numbers nodes) (length nodes)) (sym is) (rw b.0 at e) in
        omega (arith, s.0, length-take-le count ws keeps.entries)

    -- and the step is given the place there, and the one number stored there
    pub next_step : (p stored : ℕ) → p ≡ get_or ws (halfway low high) 0 → stored ≡ get_or us (width * p) 0 → step n p stored (Between low high) ≡ lookup (made + 1) n ix nodes
    next_step p stored here word =
        let place : p ≡ get_or ix (halfway low high) 0 = here ∙ sym (get_or-take count ws (halfway low high) 0 middle_inside) in
        let below = entry_below (halfway low high) middle_inside in
        let number : stored ≡ number_at (numbers nodes) p = word ∙ sym (number_word count us p (omega arith)) in
        ap₂ (λ (q s : ℕ). step n q s (Between low high)) place (number ∙ ap (number_at (numbers nodes)) place)
        ∙ ap (step_at n ix (numbers nodes)) is
        ∙ sym (one_more n ix (numbers nodes) made (Between 0 (length nodes)))
        ∙ ap (λ (m : ℕ). lookup m n ix nodes) (sym (add-one made))
