use Rattle.std.proofs.Common.{◌≡◌, map, take}
use Rattle.arbac_laws.specs.NormalForms.{normal_form}
use Rattle.req_core.specs.Answers.{form_in}
use Rattle.req_pre.specs.Views.{lists_of}
use Rattle.req_pre.specs.Answers.{AreGoalPlaces}
use Rattle.req_pre.proofs.goal_list.forms.Given as goal

abbrev pub invariant-loop-raw : goal.invariant-loop-raw
invariant-loop-raw l = record {
  list : map form_in l.list.items ≡ take l.raw-index (map normal_form (lists_of l.raws));
  places : AreGoalPlaces (lists_of l.raws) l.list.items;
}
