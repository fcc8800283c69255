-- What is kept stays of its form through each change.
use Rattle.std.proofs.Common.{ℕ, ◌≡◌, ◌≤◌, ◌+◌, ◌-◌, ◌^◌, Bool, true, false, cond, List, [], ◌∷◌, length, arith, sym, subst, Some, None}
use Rattle.std.specs.Prelude.{Option, IfSome, nat_lt}
use Rattle.list_words.specs.Lists.{Each}
use Rattle.list_words.proofs.EachLemmas.{each_weaker, each_append}
use Rattle.list_words.proofs.GetLemmas.{length_more}
use Rattle.arbac_policy.specs.declared.holder.On.{On}
use Rattle.arbac_policy.specs.declared.holder.On.TheVariants.{User, Permission}
use Rattle.desk_records.specs.declared.tables.Entity.{Entity}
use Rattle.desk_records.specs.declared.tables.JournalRow.{JournalRow}
use Rattle.desk_records.specs.declared.tables.Change.{Change}
use Rattle.desk_records.specs.declared.tables.Change.TheVariants.{Decide, Import, Policy}
use Rattle.desk_records.specs.declared.TheConstants.{MOST_ROWS}
use Rattle.desk_records.specs.Records.{Kept, of_kind, AreEntities, AreLast, IsNumbered, IsKept}
use Rattle.desk_records.specs.Changes.{changed, kept_of, next_edition, last_of_row, if_any, IsNamed, IsSound, Fits}
use Rattle.desk_records.proofs.LastLemmas.{last_with, last_of_rows}
use Rattle.desk_records.proofs.NumberedLemmas.{numbered_more}
use Rattle.desk_records.proofs.PutLemmas.{entities_put_each, length_known, roles_any}

-- tables of these parts are of the form
pub kept_from : (policy : List ℕ) (edition : ℕ) (users permissions : List Entity) (journal : List JournalRow) → AreEntities User users
    → AreEntities Permission permissions → length journal ≤ MOST_ROWS → IsNumbered journal → Each (λ row. row.edition ≤ edition) journal
    → IsKept (kept_of policy edition users permissions journal)
kept_from policy edition users permissions journal u p rows numbered editions = record {
  tables = record { users = u; permissions = p; last = last_of_rows [] journal tt; rows = rows };
  numbered = numbered;
  editions = editions;
}

-- a change that is sound and fits keeps the form
pub kept_changed : (kept : Kept) (change : Change) → IsKept kept → IsSound change → Fits kept change → IsKept (changed kept change)
kept_changed kept (Decide entity row) h sound fits = record {
  tables = record {
    users = entities_put_each User kept.users (if_any entity) h.tables.users (roles_any entity sound.0)
        (let same = length_known User kept entity fits.known in let few = h.tables.users.few in omega (arith, same, few));
    permissions = entities_put_each Permission kept.permissions (if_any entity) h.tables.permissions (roles_any entity sound.0)
        (let same = length_known Permission kept entity fits.known in let few = h.tables.permissions.few in omega (arith, same, few));
    last = last_with (last_of_row row) kept.last h.tables.last;
    rows = let long = length_more kept.journal row in let room = fits.room in omega (arith, long, room);
  };
  numbered = numbered_more kept.journal row h.numbered fits.next;
  editions = each_append (λ r. r.edition ≤ kept.edition) kept.journal (row ∷ []) h.editions (let same = fits.edition in omega (arith, same), tt);
}
kept_changed kept (Import entities) h sound fits = record {
  tables = record {
    users = entities_put_each User kept.users entities h.tables.users sound fits.users;
    permissions = entities_put_each Permission kept.permissions entities h.tables.permissions sound fits.permissions;
    last = h.tables.last;
    rows = h.tables.rows;
  };
  numbered = h.numbered;
  editions = h.editions;
}
kept_changed kept (Policy document) h sound fits = record {
  tables = record { users = h.tables.users; permissions = h.tables.permissions; last = h.tables.last; rows = h.tables.rows };
  numbered = h.numbered;
  editions = each_weaker (λ row. row.edition ≤ kept.edition) (λ row. row.edition ≤ next_edition kept.edition) later kept.journal h.editions;
}
  where
    later : (row : JournalRow) → row.edition ≤ kept.edition → row.edition ≤ next_edition kept.edition
    later row below = by_test (nat_lt kept.edition (2 ^ 32 - 1))
      where
        by_test : (t : Bool) → row.edition ≤ cond t (kept.edition + 1) kept.edition
        by_test true = omega arith
        by_test false = below

-- an entity that is kept is named among those of its kind
pub known_named : (on : On) (kept : Kept) (entity : Option Entity) → IfSome entity (λ e. IsNamed (of_kind e.on kept) e.name)
    → IfSome entity (λ e. e.on ≡ on → IsNamed (of_kind on kept) e.name)
known_named on kept None known = tt
known_named on kept (Some e) known = λ same. subst (λ k. IsNamed (of_kind k kept) e.name) same known

-- tables of equal parts
pub kept_same : (old new : Kept) → new.edition ≡ old.edition → new.users ≡ old.users → new.permissions ≡ old.permissions → new.journal ≡ old.journal
    → new.last ≡ old.last → IsKept old → IsKept new
kept_same old new edition users permissions journal last h = record {
  tables = record {
    users = subst (λ xs. AreEntities User xs) (sym users) h.tables.users;
    permissions = subst (λ xs. AreEntities Permission xs) (sym permissions) h.tables.permissions;
    last = subst (λ xs. AreLast xs) (sym last) h.tables.last;
    rows = subst (λ (xs : List JournalRow). length xs ≤ MOST_ROWS) (sym journal) h.tables.rows;
  };
  numbered = subst (λ xs. IsNumbered xs) (sym journal) h.numbered;
  editions = subst (λ e. Each (λ row. row.edition ≤ e) new.journal) (sym edition)
      (subst (λ xs. Each (λ (row : JournalRow). row.edition ≤ old.edition) xs) (sym journal) h.editions);
}
