use Rattle.std.proofs.Common.{ℕ, ◌≡◌, ◌<◌, ◌≤◌, ◌+◌, [], ◌∷◌, ◌++◌, Some, length, arith, sym, ◌∙◌, ap, subst}
use Rattle.std.specs.Prelude.{slice_get, vec_len, vec_capacity}
use Rattle.std.proofs.lemmas.List.{nil_from_length}
use Rattle.list_words.proofs.GetLemmas.{length_more}
use Rattle.mark_bag.proofs.OneLemmas.{item_read}
use Rattle.mark_bag.proofs.PartingLemmas.{ArePartedTo, parted_turned, parted_more, parted_whole}
use Rattle.mark_bag.proofs.parting.part_by.Goals as goal

-- one part less is left, and the room is the same
room_kept : (was rest held room : ℕ) → was ≡ rest + 1 → was + held ≤ room → rest + held ≤ room
room_kept was rest held room less enough = omega arith

-- and it went where there is room
room_more : (was rest held room now now_room : ℕ) → was ≡ rest + 1 → was + held ≤ room → now_room ≡ room → now ≡ held + 1 → rest + now ≤ now_room
room_more was rest held room now now_room less enough same more = omega arith

-- the part goes into the other node
pub loop-part-preserved-then-is_in : goal.loop-part-preserved-then-is_in
loop-part-preserved-then-is_in g c =
    let within = g.M.Mark.within in
    let parts = c.args.node.now.parts.items in
    let marks = c.args.marks.now in
    let rest = c.pop.new.self.items in
    let part = c.in-Some.part in
    let mark = c.index-marks-len.result in
    let one = c.loop-part.one in
    let other = c.loop-part.other in
    let now = c.put.new.self in
    let so_far : ArePartedTo within parts marks (rest ++ part ∷ []) one.parts.items one.common other.parts.items other.common =
    subst (λ list. ArePartedTo within parts marks list one.parts.items one.common other.parts.items other.common) c.in-Some.ensures.items
    c.loop-part.invariant.parted in
    let place : c.len.result ≡ length rest = c.len.ensures ∙ c.pop.new.self.ok.0 in
    let node = c.loop-part.node in
    let was : length node.parts.items ≡ length rest + 1 = rw c.in-Some.ensures.items (length_more rest part) in
    let enough : length node.parts.items ≤ length marks = c.loop-part.invariant.marks_enough in
    let below : c.len.result < length marks = omega (arith, place, was, enough) in
    let is_mark : slice_get marks (length rest) ≡ Some mark =
    subst (λ k. slice_get marks k ≡ Some mark) place (item_read marks c.len.result mark below c.index-marks-len.is) in
    let more : length now.parts.items ≡ length other.parts.items + 1 = rw c.put.ensures.parts (length_more other.parts.items part) in
    let more_held : vec_len now.parts ≡ vec_len other.parts + 1 = now.parts.ok.0 ∙ more ∙ ap (λ n. n + 1) (sym other.parts.ok.0) in
    record {
      parted = rw c.put.ensures.parts
          (parted_turned within parts marks rest (other.parts.items ++ part ∷ []) now.common one.parts.items one.common
          (parted_more within parts marks rest other.parts.items other.common one.parts.items one.common part mark now.common g.met.M.Mark.through
          (parted_turned within parts marks (rest ++ part ∷ []) one.parts.items one.common other.parts.items other.common so_far) is_mark
          c.put.ensures.mark c.put.ensures.kept));
      marks_enough = omega (arith, was, enough);
      one_room = room_kept (length node.parts.items) (length rest) (vec_len one.parts) (vec_capacity one.parts) was
          c.loop-part.invariant.one_room;
      other_room = room_more (length node.parts.items) (length rest) (vec_len other.parts) (vec_capacity other.parts) (vec_len now.parts)
          (vec_capacity now.parts) was c.loop-part.invariant.other_room c.put.ensures.room more_held;
    }

-- the part goes into the node that stays
pub loop-part-preserved : goal.loop-part-preserved
loop-part-preserved g c =
    let within = g.M.Mark.within in
    let parts = c.args.node.now.parts.items in
    let marks = c.args.marks.now in
    let rest = c.pop.new.self.items in
    let part = c.in-Some.part in
    let mark = c.index-marks-len.result in
    let one = c.loop-part.one in
    let other = c.loop-part.other in
    let now = c.put-else-is_in.new.self in
    let so_far : ArePartedTo within parts marks (rest ++ part ∷ []) one.parts.items one.common other.parts.items other.common =
    subst (λ list. ArePartedTo within parts marks list one.parts.items one.common other.parts.items other.common) c.in-Some.ensures.items
    c.loop-part.invariant.parted in
    let place : c.len.result ≡ length rest = c.len.ensures ∙ c.pop.new.self.ok.0 in
    let node = c.loop-part.node in
    let was : length node.parts.items ≡ length rest + 1 = rw c.in-Some.ensures.items (length_more rest part) in
    let enough : length node.parts.items ≤ length marks = c.loop-part.invariant.marks_enough in
    let below : c.len.result < length marks = omega (arith, place, was, enough) in
    let is_mark : slice_get marks (length rest) ≡ Some mark =
    subst (λ k. slice_get marks k ≡ Some mark) place (item_read marks c.len.result mark below c.index-marks-len.is) in
    let more : length now.parts.items ≡ length one.parts.items + 1 = rw c.put-else-is_in.ensures.parts (length_more one.parts.items part) in
    let more_held : vec_len now.parts ≡ vec_len one.parts + 1 = now.parts.ok.0 ∙ more ∙ ap (λ n. n + 1) (sym one.parts.ok.0) in
    record {
      parted = rw c.put-else-is_in.ensures.parts
          (parted_more within parts marks rest one.parts.items one.common other.parts.items other.common part mark now.common g.met.M.Mark.through
          so_far is_mark c.put-else-is_in.ensures.mark c.put-else-is_in.ensures.kept);
      marks_enough = omega (arith, was, enough);
      other_room = room_kept (length node.parts.items) (length rest) (vec_len other.parts) (vec_capacity other.parts) was
          c.loop-part.invariant.other_room;
      one_room = room_more (length node.parts.items) (length rest) (vec_len one.parts) (vec_capacity one.parts) (vec_len now.parts)
          (vec_capacity now.parts) was c.loop-part.invariant.one_room c.put-else-is_in.ensures.room more_held;
    }

-- no part is left
pub returns-clause-parted : goal.returns-clause-parted
returns-clause-parted g c =
    let rest = c.loop-part.node.parts in
    let none : rest.items ≡ [] = nil_from_length rest.items (sym rest.ok.0 ∙ c.in_default.ensures.cases.0) in
    parted_whole g.M.Mark.within c.args.node.now.parts.items c.args.marks.now rest.items c.loop-part.one c.loop-part.other none
    c.loop-part.invariant.parted
