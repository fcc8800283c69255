use Rattle.std.proofs.Common.{◌≡◌, take}
use Rattle.list_words.specs.Lists.{Each}
use Rattle.arbac_laws.specs.NormalForms.{IsNormal}
use Rattle.arbac_laws.specs.Recorded.{Entry as Recorded}
use Rattle.search_rounds.specs.Views.{entries_of, HaveOwnMarks}
use Rattle.back_search.specs.Answers.{entries_in}
use Rattle.back_search.proofs.copies.candidates.Given as goal

abbrev pub invariant-loop-one : goal.invariant-loop-one
invariant-loop-one l = record {
  entries : entries_of l.made.items ≡ entries_in (take l.one-index l.list);
  marks : HaveOwnMarks l.order l.made.items;
  normal : Each (λ (entry : Recorded). IsNormal entry.needs) (entries_in (take l.one-index l.list));
}
