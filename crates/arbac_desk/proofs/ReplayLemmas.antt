-- The replies of `replay`: to what was fetched and to what the file holds, and what their statuses tell of it.
use Rattle.std.proofs.Common.{ℕ, ◌≡◌, List, [], ◌∷◌, refl, arith, subst, inl, inr}
use Rattle.std.specs.Prelude.{◌⊎◌, map}
use Rattle.list_words.specs.Lists.{Each}
use Rattle.desk_texts.specs.Lines.{malformed_line}
use Rattle.desk_texts.specs.Faults.{run_fault, too_long}
use Rattle.policy_text.specs.declared.run_error.RunError.{RunError}
use Rattle.policy_text.specs.declared.run_error.RunError.TheVariants as runs
use Rattle.policy_text.specs.declared.run_error.RunError.TheVariants.{BadLine, UnknownRole, Order, Cond, TooMany, Unended, Memory}
use Rattle.policy_text.specs.Faults.{IsFirstFault, IsRefused}
use Rattle.policy_text.specs.Runs.{plain_of}
use Rattle.arbac_policy.specs.declared.cond.Cond.{Cond as Condition}
use Rattle.arbac_policy.specs.Truth.{term_of, IsKnown}
use Rattle.arbac_desk.specs.declared.TheConstants.{MOST_RUN_BYTES}
use Rattle.arbac_desk.specs.ReplayAnswers.{IsDone, IsUnmet, IsStopped, IsNoRun, IsReplyTo, IsRunText}
use Rattle.arbac_desk.proofs.FetchLemmas.{whole, all_malformed, no_text}
use Rattle.arbac_desk.proofs.AnswerLemmas.{IsOfReply, Sorts, done_is, refused_is, malformed_is}
use Rattle.arbac_desk.proofs.FileLemmas.{IsOfAll, AreReplies}

-- the goal's conditions are known, seen as they are and as terms
pub known_conds : (count : ℕ) (conds : List Condition) → Each (IsKnown count) (map term_of conds) → Each (λ cond. IsKnown count (term_of cond)) conds
known_conds count [] known = known
known_conds count (cond ∷ conds) known = (known.0, known_conds count conds known.1)

-- a refusal that isn't want of memory is the first fault
pub first_fault : (bytes : List ℕ) (error : RunError) → IsRefused bytes error → (error ≡ runs.Memory → ⊥) → IsFirstFault bytes error
first_fault bytes (BadLine at) refused told = refused
first_fault bytes (UnknownRole at) refused told = refused
first_fault bytes (Order error) refused told = refused
first_fault bytes (Cond at error) refused told = refused
first_fault bytes (TooMany at) refused told = refused
first_fault bytes Unended refused told = refused
first_fault bytes Memory refused told = absurd (told refl)

-- the reply to what was fetched is the reply to what the file holds
pub replied : (name : List ℕ) → IsOfAll MOST_RUN_BYTES (IsReplyTo name)
replied name all bytes status text e (inl (told, h)) = inl (told, subst (λ b. IsDone b text) (whole MOST_RUN_BYTES all bytes e h.ends.few) h)
replied name all bytes status text e (inr (inl (told, inl h))) =
    inr (inl (told, inl (subst (λ b. IsUnmet b text) (whole MOST_RUN_BYTES all bytes e h.ends.few) h)))
replied name all bytes status text e (inr (inl (told, inr h))) =
    inr (inl (told, inr (subst (λ b. IsStopped b text) (whole MOST_RUN_BYTES all bytes e h.few) h)))
replied name all bytes status text e (inr (inr (told, h))) = inr (inr (
  told,
  all_malformed MOST_RUN_BYTES (malformed_line name too_long) IsNoRun (λ fault. malformed_line name (run_fault fault)) all bytes text e h,
))

reply_status : (name bytes : List ℕ) (status : ℕ) (text : List ℕ) → IsReplyTo name bytes status text → IsOfReply status
reply_status name bytes status text (inl h) = done_is status h.0
reply_status name bytes status text (inr (inl h)) = refused_is status h.0
reply_status name bytes status text (inr (inr h)) = malformed_is status h.0

-- the statuses of a run text
abbrev pub IsOfRun : ℕ → Type 0
IsOfRun status = (status ≡ 0) ⊎ ((status ≡ 21) ⊎ (status ≡ 7))

-- a reply of a status that isn't malformed is one to a run text
reply_sorts : (name bytes : List ℕ) (status : ℕ) (text : List ℕ) → IsReplyTo name bytes status text → Sorts IsOfRun (IsRunText bytes) status
reply_sorts name bytes status text (inl (told, h)) =
    inl ((h.ends.few, plain_of h.run, h.ends.stands), inl told, λ e. let f : status ≡ 0 = told in let g : status ≡ 3 = e in omega (arith, f, g))
reply_sorts name bytes status text (inr (inl (told, h))) =
    inl (by_end h, inr (inl told), λ e. let f : status ≡ 21 = told in let g : status ≡ 3 = e in omega (arith, f, g))
  where
    by_end : IsUnmet bytes text ⊎ IsStopped bytes text → IsRunText bytes
    by_end (inl unmet) = (unmet.ends.few, plain_of unmet.run, unmet.ends.stands)
    by_end (inr stopped) = (stopped.few, plain_of stopped.run, stopped.stands)
reply_sorts name bytes status text (inr (inr (told, h))) = inr (
  told,
  no_text MOST_RUN_BYTES (malformed_line name too_long) IsNoRun (λ fault. malformed_line name (run_fault fault)) bytes text (IsRunText bytes)
      (λ is. is.0) (λ fault none is. none.none is.1 is.2) h,
)

-- what is known of the replies
pub are_replies : (name : List ℕ) → AreReplies (IsReplyTo name) IsOfRun IsRunText
are_replies name = record { of_reply = reply_status name; sorts = reply_sorts name; memory = λ status out. inr (inr out) }
