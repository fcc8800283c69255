-- The three ways of a requirement that is made: seen before, covered by what was known, or new.
use Rattle.std.proofs.Common.{◌≡◌, true, subst}
use Rattle.std.proofs.lemmas.List.{map-append}
use Rattle.list_words.specs.Lists.{IsOneOf}
use Rattle.shared_reqs.specs.Shared.{needs_marked}
use Rattle.arbac_laws.specs.Needs.{IsCovered}
use Rattle.arbac_laws.specs.Recorded.{Entry}
use Rattle.search_rounds.specs.Keeping.{Gathered}
use Rattle.search_rounds.specs.Views.{origin_of, entries_of}
use Rattle.search_rounds.proofs.AddingLemmas.{gathers_seen, gathers_covered, gathers_new}
use Rattle.search_rounds.proofs.gathering.Gathering.add.Goals as goal
use Rattle.search_rounds.proofs.gathering.Gathering.add.Goals.{then-not-is_known+in_ok-clone+in_ok-push, else-not-is_known}

-- what was seen before changes nothing
pub returns-then-has : goal.returns-then-has
returns-then-has c =
    let entry : Entry = record { origin = origin_of c.args.origin; needs = needs_marked c.args.req } in
    gathers_seen c.args.self.now entry
    (subst (λ (g : Gathered). IsOneOf g.seen (needs_marked c.args.req)) c.self.view_is (c.has.ensures c.if-has.true))

-- else it joins what was seen, and is kept where nothing known covers it
pub returns : goal.returns
returns c =
    let entry : Entry = record { origin = origin_of c.args.origin; needs = needs_marked c.args.req } in
    let before : Gathered = record {
      order = c.self.inside.index.order;
      known = c.self.inside.index.members;
      seen = c.self.inside.seen;
      kept = entries_of c.self.inside.kept.items;
    } in
    let answer = c.in_ok-is_known.ensures in
    elim c.if-not-is_known.branch [
      | then-not-is_known+in_ok-clone+in_ok-push w ↦
          let no = w.if-not-is_known.true in
          let new : ¬ IsCovered before.known entry.needs = λ covered. let yes' : c.in_ok-is_known.is_known ≡ true = answer.1 covered in cc in
          rw (c.in_ok-add.ensures, w.self-inside-is, w.in_ok-push.ensures.items, w.in_ok-clone.ensures.cases)
          (rw (c.in_ok-req.ensures.ok, ← c.self.view_is, map-append) (gathers_new before entry new))
      | else-not-is_known w ↦
          rw (c.in_ok-add.ensures, w.self-inside-is, c.in_ok-req.ensures.ok, ← c.self.view_is)
          (gathers_covered before entry (answer.0 w.if-not-is_known.false))
    ]
