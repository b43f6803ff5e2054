-- Settings where they stand in a store: the first of them, and those behind it.
use Rattle.std.specs.Prelude.{ℕ, ◌+◌, ◌-◌, ◌≤◌, ◌<◌, ◌≡◌, refl, leb}
use Rattle.std.proofs.Math.Path.{sym, ap}
use Rattle.std.proofs.Common.{◌∙◌, take-append-drop, drop-drop, get_or-drop}
use mathlib.Core.List.{List, [], ◌∷◌, ◌++◌, append_assoc}
use native.Mathlib.Omega.{arith}
use borrow.Author.Tests.{leb-true}
use Rattle.std.proofs.Math.ListN.{length, take, drop, length-append}
use Rattle.std.proofs.Math.Seq.{take_at, drop_at}
use Rattle.words.specs.ChoiceLaws.{both_true}
use Rattle.words.specs.Parts.{region}
use Rattle.words.specs.PartsLaws.{region-length}
use Rattle.words.specs.Bytes.{bytes32}
use Rattle.format.specs.Fields.{word, name_bytes}
use Rattle.tagged.specs.Fields.{head_size, size_in, behind as past-field, write_field, write_fields}
use Rattle.tagged.specs.FieldsLaws.{size_limit, field_size, field_behind, fields_cons}
use Rattle.store.specs.Store.{Setting, number_size, longest_name}
use Rattle.store.specs.Writing.{setting_field, setting_fields}
use Rattle.store.specs.WritingLaws.{word_back}
use Rattle.store.specs.Places.{AreSettings, SettingsStand}

-- settings begin with one, whose field tells its name and its float; the others stand behind it
pub record NextSetting (s : List ℕ) (at end : ℕ) (cs : List Setting) : Type 0 where
  pub first : Setting
  pub more : List Setting
  pub split : cs ≡ first ∷ more
  pub long : number_size ≤ size_in (drop at s)
  pub past : at + (head_size + size_in (drop at s)) ≤ end
  pub name : region (at + head_size) (size_in (drop at s) - number_size) s ≡ first.name
  pub float : word s (at + head_size + (size_in (drop at s) - number_size)) ≡ first.float
  pub rest : SettingsStand s (at + (head_size + size_in (drop at s))) end more

-- four bytes at a place are those that the run from there on begins with
word_from : (s : List ℕ) (k : ℕ) → word s k ≡ word (drop k s) 0
word_from s k =
    let here : k + 0 ≡ k = omega arith in
    rw (get_or-drop k s 0 0, get_or-drop k s 1 0, get_or-drop k s 2 0, get_or-drop k s 3 0, here)

module _ (s : List ℕ) (at end : ℕ) (c : Setting) (cs : List Setting) (h : SettingsStand s at end (c ∷ cs)) where
  abbrev behind : List ℕ
  behind = write_fields (setting_fields cs) ++ drop (end - at) (drop at s)

  -- the run from there on
  laid : drop at s ≡ write_field (setting_field c) ++ behind
  unfolding setting_fields
  laid =
      sym (take-append-drop (end - at) (drop at s))
      ∙ ap (λ (l : List ℕ). l ++ drop (end - at) (drop at s)) h.fields
      ∙ fields_cons (setting_field c) (setting_fields cs) (drop (end - at) (drop at s))

  length_is : length (setting_field c).contents ≡ length c.name + number_size
  length_is = length-append c.name (bytes32 c.float)

  named : length c.name ≤ longest_name
  unfolding AreSettings
  named = leb-true (length c.name) longest_name (both_true (leb (length c.name) longest_name) (name_bytes c.name) h.settings.0).0

  fits : length (setting_field c).contents < size_limit
  fits = omega (arith, length_is, named)

  size : size_in (drop at s) ≡ length c.name + number_size
  size = ap size_in laid ∙ field_size (setting_field c) behind fits ∙ length_is

  left : end - at ≡ head_size + length (setting_field c).contents + length (write_fields (setting_fields cs))
  unfolding setting_fields write_fields
  left =
      let ordered = h.ordered in
      let inside = h.inside in
      sym (region-length at (end - at) s (omega arith))
      ∙ ap length h.fields
      ∙ length-append (write_field (setting_field c)) (write_fields (setting_fields cs))
      ∙ omega arith

  contents : drop (at + head_size) s ≡ c.name ++ (bytes32 c.float ++ behind)
  contents = sym (drop-drop head_size at s) ∙ ap (λ (l : List ℕ). drop head_size l) laid ∙ append_assoc c.name (bytes32 c.float) behind

  own-name : region (at + head_size) (size_in (drop at s) - number_size) s ≡ c.name
  own-name =
      let n : length c.name ≡ size_in (drop at s) - number_size = omega (arith, size) in
      ap (λ (l : List ℕ). take (size_in (drop at s) - number_size) l) contents
      ∙ take_at c.name (bytes32 c.float ++ behind) (size_in (drop at s) - number_size) n

  own_float : word s (at + head_size + (size_in (drop at s) - number_size)) ≡ c.float
  unfolding AreSettings
  own_float =
      let m = size_in (drop at s) - number_size in
      let n : length c.name ≡ size_in (drop at s) - number_size = omega (arith, size) in
      word_from s (at + head_size + m)
      ∙ ap (λ (l : List ℕ). word l 0)
      (sym (drop-drop m (at + head_size) s) ∙ ap (λ (l : List ℕ). drop m l) contents ∙ drop_at c.name (bytes32 c.float ++ behind) m n)
      ∙ word_back c.float h.settings.1.0

  others : SettingsStand s (at + (head_size + size_in (drop at s))) end cs
  unfolding AreSettings
  others =
      let far = head_size + size_in (drop at s) in
      let n : length (write_fields (setting_fields cs)) ≡ end - (at + far) = omega (arith, size, left, length_is, h.ordered) in
      record {
        ordered = omega (arith, size, left, length_is, h.ordered);
        inside = h.inside;
        fields =
            ap (λ (l : List ℕ). take (end - (at + far)) l)
            (sym (drop-drop far at s) ∙ ap past-field laid ∙ field_behind (setting_field c) behind fits)
            ∙ take_at (write_fields (setting_fields cs)) (drop (end - at) (drop at s)) (end - (at + far)) n;
        settings = h.settings.1.1;
      }

  pub one_stands : NextSetting s at end (c ∷ cs)
  one_stands = record {
    first = c;
    more = cs;
    split = refl;
    long = omega (arith, size);
    past = omega (arith, size, left, length_is, h.ordered);
    name = own-name;
    float = own_float;
    rest = others;
  }

-- a part that is not empty holds one
pub next_stands : (s : List ℕ) (at end : ℕ) (cs : List Setting) → SettingsStand s at end cs → at < end → NextSetting s at end cs
unfolding setting_fields write_fields
next_stands s at end [] h less =
    let inside = h.inside in
    let none = sym (region-length at (end - at) s (omega arith)) ∙ ap length h.fields in
    absurd (omega arith)
next_stands s at end (c ∷ cs) h less = one_stands s at end c cs h

-- and one that is empty holds none
pub none_stands : (s : List ℕ) (at end : ℕ) (cs : List Setting) → SettingsStand s at end cs → end ≤ at → cs ≡ []
none_stands s at end [] h past = refl
none_stands s at end (c ∷ cs) h past = absurd (omega (arith, left s at end c cs h))
