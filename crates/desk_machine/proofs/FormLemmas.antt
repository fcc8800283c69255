-- Tables stay of their form with a decision's row and its entity, and with another document.
use Rattle.std.proofs.Common.{ℕ, ◌≤◌, List, [], ◌∷◌, Option, arith}
use Rattle.std.specs.Prelude.{IfSome}
use Rattle.std.proofs.lemmas.Bool.Decides.{nat_tests}
use Rattle.list_words.specs.Lists.{AreDifferent}
use Rattle.list_words.proofs.EachLemmas.{each_append, each_weaker}
use Rattle.list_words.proofs.GetLemmas.{length_more}
use Rattle.arbac_policy.specs.declared.holder.On.{On}
use Rattle.arbac_policy.specs.declared.holder.On.TheVariants.{User, Permission}
use Rattle.desk_records.specs.declared.tables.Entity.{Entity}
use Rattle.desk_records.specs.declared.tables.JournalRow.{JournalRow}
use Rattle.desk_records.specs.declared.tables.Change.TheVariants.{Decide, Policy}
use Rattle.desk_records.specs.Records.{Kept, IsKept, AreEntities, of_kind}
use Rattle.desk_records.specs.Changes.{FitsDecision, put_each, if_any, last_of_row, next_edition, changed}
use Rattle.desk_records.proofs.LastLemmas.{last_with}
use Rattle.desk_records.proofs.NumberedLemmas.{numbered_more}
use Rattle.desk_records.proofs.PutLemmas.{entities_put_each, length_known, roles_any}

-- a decision that fits leaves the tables of their form
pub kept_decided : (kept : Kept) (entity : Option Entity) (row : JournalRow) → IsKept kept → FitsDecision kept entity row
    → IfSome entity (λ e. AreDifferent e.roles) → IsKept (changed kept (Decide entity row))
kept_decided kept entity row is fits roles = record {
  tables = record {
    users = decided User is.tables.users;
    permissions = decided Permission is.tables.permissions;
    last = last_with (last_of_row row) kept.last is.tables.last;
    rows = omega (arith, fits.room, length_more kept.journal row);
  };
  numbered = numbered_more kept.journal row is.numbered fits.next;
  editions = each_append (λ r. r.edition ≤ kept.edition) kept.journal (row ∷ []) is.editions (omega (arith, fits.edition), tt);
}
  where
    decided : (on : On) → AreEntities on (of_kind on kept) → AreEntities on (put_each on (of_kind on kept) (if_any entity))
    decided on are =
        entities_put_each on (of_kind on kept) (if_any entity) are (roles_any entity roles)
        (omega (arith, are.few, length_known on kept entity fits.known))

-- no edition falls
edition_grows : (edition : ℕ) → edition ≤ next_edition edition
edition_grows edition = grind (arith, nat_tests)

-- another document leaves the tables of their form
pub kept_loaded : (kept : Kept) (document : List ℕ) → IsKept kept → IsKept (changed kept (Policy document))
kept_loaded kept document is = record {
  tables = record { users = is.tables.users; permissions = is.tables.permissions; last = is.tables.last; rows = is.tables.rows };
  numbered = is.numbered;
  editions = each_weaker (λ row. row.edition ≤ kept.edition) (λ row. row.edition ≤ next_edition kept.edition)
      (λ row before. omega (arith, before, edition_grows kept.edition)) kept.journal is.editions;
}
