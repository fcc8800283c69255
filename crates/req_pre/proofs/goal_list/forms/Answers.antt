use Rattle.std.proofs.Common.{◌≡◌, ◌∙◌, [], length, map, ap, sym, arith, Vec, Global}
use Rattle.std.specs.Prelude.{slice_get, IfSome}
use Rattle.role_order.proofs.ClosureLemmas.{length_mapped, length_taken}
use Rattle.arbac_laws.specs.NormalForms.{normal_form, AreFormPlaces}
use Rattle.arbac_policy.specs.declared.conjunct.Conjunct.{Conjunct}
use Rattle.req_core.specs.Answers.{form_in}
use Rattle.arbac_laws.specs.Views.{needs_of}
use Rattle.req_pre.specs.Views.{lists_of}
use Rattle.req_pre.proofs.PreparedLemmas.{at_mapped}
use Rattle.req_pre.proofs.GoalListLemmas.{item_there, seen_more, placed_more}
use Rattle.req_pre.proofs.goal_list.forms.Goals as goal

pub loop-raw-preserved : goal.loop-raw-preserved
loop-raw-preserved c =
    let raws = c.args.raws.now in
    let raw = c.raw-item.result in
    let i = c.loop-raw.raw-index in
    let form = c.in_ok-normal.field-0 in
    let at = item_there raws i raw c.loop-raw-test.true c.raw-item.is in
    let there : slice_get (lists_of raws) i ≡ _ = at_mapped (λ (r : Vec Conjunct Global). needs_of r.items) raws i raw at in
    let made : form_in form ≡ normal_form (needs_of raw.items) = rw (c.deref.ensures.value) at c.in_ok-normal.ensures.form in
    let placed : IfSome form (λ n. AreFormPlaces (needs_of raw.items) n.req n.places.items) = rw (c.deref.ensures.value) at c.in_ok-normal.ensures.places in
    let all : length (map normal_form (lists_of raws)) ≡ length raws =
    length_mapped normal_form (lists_of raws) ∙ length_mapped (λ (r : Vec Conjunct Global). needs_of r.items) raws in
    let long : length c.loop-raw.list.items ≡ i =
    sym (length_mapped form_in c.loop-raw.list.items) ∙ ap length c.loop-raw.invariant.list
    ∙ length_taken (map normal_form (lists_of raws)) i (omega (all, c.loop-raw-test.true, arith)) in
    record {
      list = seen_more form_in [] (map normal_form (lists_of raws)) c.loop-raw.list.items c.push.new.self.items i form (normal_form (needs_of raw.items))
          c.loop-raw.invariant.list (at_mapped normal_form (lists_of raws) i (needs_of raw.items) there) c.in_ok-push.ensures.items made;
      places = placed_more (lists_of raws) c.loop-raw.list.items c.push.new.self.items i
          (needs_of raw.items) form c.loop-raw.invariant.places long there placed c.in_ok-push.ensures.items;
    }
