-- What the commands of buses do: they look neither at the arena nor at the bytes beside the command.
use Rattle.std.specs.Prelude.{ℕ, ◌+◌, Bool, true, false, not, ◌≡◌, List, length, set, replicate, leb, Option, Some, None, Result, Err}
use Rattle.std.specs.Option.{ok_or}
use Rattle.std.proofs.Math.Path.{refl, sym, ap}
use Rattle.std.proofs.Common.{◌∙◌, arith}
use Rattle.words.specs.Choice.{pick}
use Rattle.words.specs.ChoiceLaws.{both_true}
use Rattle.words.specs.Parts.{put}
use Rattle.words.specs.PartsLaws.{region-length}
use Rattle.refusals.specs.declared.Refusal.{Refusal}
use Rattle.refusals.specs.declared.Refusal.TheVariants.{NoBus, BadValue}
use Rattle.values.specs.declared.Value.{Value}
use Rattle.values.specs.Values.{pattern_of}
use Rattle.values.specs.ValueLaws.{pattern_fact, bounds_fact}
use Rattle.model.specs.declared.BusCommand.{BusCommand}
use Rattle.model.specs.declared.BusCommand.TheVariants.{Set, Fill}
use Rattle.model.specs.declared.Command.TheVariants as command
use Rattle.model.specs.Answers.{Answer}
use Rattle.model.specs.Answers.{Done, Refused}
use Rattle.model.specs.Layout.{words_length, buses_place, bus_count, buses_in, put_buses}
use Rattle.model.specs.Engine.{decode}
use Rattle.model.specs.Meaning.{is_negative, is_bus, is_bus_range}
use Rattle.model.specs.Checks.{first_of}
use Rattle.model.specs.Effects.{effect, bus_effect}
use Rattle.model.specs.After.{words_after}
use Rattle.model.specs.Apply.{answer_in}
use Rattle.state.specs.Does.{WordsStep}

abbrev pub Steps : BusCommand → List ℕ → Answer → List ℕ → Type 0
Steps c ws a ws' = (bytes bs : List ℕ) → WordsStep (command.Buses c) bytes ws bs a ws'

-- the refusal of a value that is out of bounds
pub bad_value : (o : Option ℕ) (r e : Refusal) → ◌≡◌ {A = Result ℕ Refusal} (Err e) (ok_or o r) → e ≡ r
bad_value None r e h = cc
bad_value (Some p) r e h = cc

-- the words after an accepted command
after : (c : BusCommand) (bytes ws bs : List ℕ) → words_after (command.Buses c) bytes ws bs ≡ put_buses (bus_effect c (buses_in ws)) ws
unfolding words_after effect decode
after c bytes ws bs = refl

-- /c_set
module _ (bus : ℕ) (value : Value) (ws : List ℕ) where
  pub set_no_bus : is_bus bus ≡ false → Steps (Set bus value) ws (Refused NoBus) ws
  unfolding answer_in first_of
  set_no_bus h bytes bs = record { answers = rw h; words = refl }

  pub set_bad_value : is_bus bus ≡ true → pattern_of value ≡ None → Steps (Set bus value) ws (Refused BadValue) ws
  unfolding answer_in first_of
  set_bad_value h v bytes bs = record { answers = rw (h, bounds_fact value v); words = refl }

  pub set_done : is_bus bus ≡ true → (p : ℕ) → pattern_of value ≡ Some p → Steps (Set bus value) ws Done (put_buses (set (buses_in ws) bus p) ws)
  unfolding answer_in first_of
  set_done h p v bytes bs =
      let t = pattern_fact value p v in
      record {
        answers = rw (h, t.0);
        words = ap (λ (k : ℕ). put_buses (set (buses_in ws) bus k) ws) (sym t.1) ∙ sym (after (Set bus value) bytes ws bs);
      }

-- /c_fill
module _ (start count : ℕ) (value : Value) (ws : List ℕ) where
  pub fill_no_bus : is_bus_range start count ≡ false → Steps (Fill start count value) ws (Refused NoBus) ws
  unfolding answer_in first_of
  fill_no_bus h bytes bs = record { answers = rw h; words = refl }

  pub fill_bad_value : is_bus_range start count ≡ true → pattern_of value ≡ None → Steps (Fill start count value) ws (Refused BadValue) ws
  unfolding answer_in first_of
  fill_bad_value h v bytes bs = record { answers = rw (h, bounds_fact value v); words = refl }

  -- a range of buses is all there
  range_there : length ws ≡ words_length → is_bus_range start count ≡ true → leb (start + count) (length (buses_in ws)) ≡ true
  range_there size h = ap (λ (k : ℕ). leb (start + count) k) (region-length buses_place bus_count ws (omega arith)) ∙ (both_true (not (is_negative count)) (leb (start + count) bus_count) h).1

  pub fill_done : length ws ≡ words_length → is_bus_range start count ≡ true → (p : ℕ) → pattern_of value ≡ Some p
      → Steps (Fill start count value) ws Done (put_buses (pick (leb (start + count) (length (buses_in ws))) (put start count (replicate count p) (buses_in ws)) (buses_in ws)) ws)
  unfolding answer_in first_of
  fill_done size h p v bytes bs =
      let t = pattern_fact value p v in
      record {
        answers = rw (h, t.0);
        words = ap (λ (b : Bool). put_buses (pick b (put start count (replicate count p) (buses_in ws)) (buses_in ws)) ws) (range_there size h)
            ∙ ap (λ (k : ℕ). put_buses (put start count (replicate count k) (buses_in ws)) ws) (sym t.1)
            ∙ sym (after (Fill start count value) bytes ws bs);
      }
