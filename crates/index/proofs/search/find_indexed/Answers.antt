use Rattle.std.proofs.Common.{◌*◌, ◌≡◌, ◌∙◌, refl, sym, arith, get_or, le-leb}
use Rattle.nodes.specs.Table.{width}
use Rattle.index.specs.declared.step.Known.TheVariants.{Between, Found}
use Rattle.index.specs.Lookup.{halfway}
use Rattle.index.specs.Words.{entry_below, first_known, ends, says_below, none_open, middle_inside, next_step}
use Rattle.index.proofs.search.find_indexed.Goals as goal

pub loop-init : goal.loop-init
loop-init c =
    let a = c.args in
    first_known a.nodes.now a.index.now a.count c.requires a.number

-- the number was found
pub returns-in-Found : goal.returns-in-Found
returns-in-Found c =
    let a = c.args in
    let fact : Found c.in-Found.place ≡ c.loop.known = sym c.in-Found.is in
    let says = fact ∙ c.loop.invariant in
    record {
      settled = ends a.nodes.now a.index.now a.count c.requires a.number c.loop.counter (Found c.in-Found.place) says (omega arith) refl;
      below = says_below a.nodes.now a.index.now a.count c.requires a.number c.loop.counter (Found c.in-Found.place) says;
    }

-- no entry is left
pub returns-then-high-low : goal.returns-then-high-low
returns-then-high-low c =
    let a = c.args in
    let fact : Between c.in-Between.low c.in-Between.high ≡ c.loop.known = sym c.in-Between.is in
    record {
      settled = ends a.nodes.now a.index.now a.count c.requires a.number c.loop.counter (Between c.in-Between.low c.in-Between.high) (fact ∙ c.loop.invariant) (omega arith) (le-leb c.in-Between.high c.in-Between.low c.if-high-low.true);
      below = tt;
    }

pub loop-preserved : goal.loop-preserved
loop-preserved c =
    let a = c.args in
    let fact : Between c.in-Between.low c.in-Between.high ≡ c.loop.known = sym c.in-Between.is in
    let stored = get_or a.nodes.now (width * c.wide-place.result) 0 in
    c.step-known.ensures
    ∙ next_step a.nodes.now a.index.now a.count c.requires a.number c.loop.counter c.in-Between.low c.in-Between.high (fact ∙ c.loop.invariant) c.if-high-low.false c.wide-place.result stored c.wide-place.ensures refl

-- so many steps leave nothing open
pub returns : goal.returns
returns c =
    let a = c.args in
    let open_none = none_open a.nodes.now a.index.now a.count c.requires a.number c.loop.counter c.loop.known c.loop.invariant (omega arith) in
    rw c.answer.ensures record {
      settled = ends a.nodes.now a.index.now a.count c.requires a.number c.loop.counter c.loop.known c.loop.invariant (omega arith) open_none;
      below = says_below a.nodes.now a.index.now a.count c.requires a.number c.loop.counter c.loop.known c.loop.invariant;
    }

pub overflow_add-low : goal.overflow_add-low
overflow_add-low c =
    let a = c.args in
    let fact : Between c.in-Between.low c.in-Between.high ≡ c.loop.known = sym c.in-Between.is in
    let middle = middle_inside a.nodes.now a.index.now a.count c.requires a.number c.loop.counter c.in-Between.low c.in-Between.high (fact ∙ c.loop.invariant) c.if-high-low.false in
    omega (arith, middle, c.requires.few, c.requires.entries)

pub offset_bounds-index-low : goal.offset_bounds-index-low
offset_bounds-index-low c =
    let a = c.args in
    let fact : Between c.in-Between.low c.in-Between.high ≡ c.loop.known = sym c.in-Between.is in
    let middle = middle_inside a.nodes.now a.index.now a.count c.requires a.number c.loop.counter c.in-Between.low c.in-Between.high (fact ∙ c.loop.invariant) c.if-high-low.false in
    omega (arith, middle, c.requires.few, c.requires.entries)

pub bounds-index-low : goal.bounds-index-low
bounds-index-low c =
    let a = c.args in
    let fact : Between c.in-Between.low c.in-Between.high ≡ c.loop.known = sym c.in-Between.is in
    let middle = middle_inside a.nodes.now a.index.now a.count c.requires a.number c.loop.counter c.in-Between.low c.in-Between.high (fact ∙ c.loop.invariant) c.if-high-low.false in
    omega (arith, middle, c.requires.few, c.requires.entries)

pub bounds-nodes-place : goal.bounds-nodes-place
bounds-nodes-place c =
    let a = c.args in
    let fact : Between c.in-Between.low c.in-Between.high ≡ c.loop.known = sym c.in-Between.is in
    let middle = middle_inside a.nodes.now a.index.now a.count c.requires a.number c.loop.counter c.in-Between.low c.in-Between.high (fact ∙ c.loop.invariant) c.if-high-low.false in
    omega (arith, entry_below a.nodes.now a.index.now a.count c.requires (halfway c.in-Between.low c.in-Between.high) middle, c.wide-place.ensures, c.requires.few, c.requires.room)
