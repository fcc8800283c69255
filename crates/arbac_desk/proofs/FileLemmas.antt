-- Commands of one file: the reply to what was fetched, the reply to what the file holds, and what the answer tells.
use Rattle.std.proofs.Common.{ℕ, ◌≡◌, ◌+◌, List, take, refl, arith, subst, inl, inr, Option, Some, None}
use Rattle.std.specs.Prelude.{◌⊎◌, IfSome, IfOk, Result, Ok, Err}
use Rattle.std.specs.declared.alloc.AllocError.{AllocError}
use Rattle.desk_ports.specs.Shelves.{ShelfView}
use Rattle.desk_ports.specs.Sinks.{SinkView}
use Rattle.arbac_desk.specs.declared.reply.Reply.{Reply}
use Rattle.arbac_desk.specs.Statuses.{MALFORMED, READ_FAULT, WRITE_FAULT, NO_MEMORY, IsStatus}
use Rattle.arbac_desk.specs.Answers.{TellsFaults, IsFaultless, AreTold, HasFetched, HasMissed, Says, IsOf, IsFileReply, IsFileAnswer}
use Rattle.arbac_desk.proofs.AnswerLemmas.{says_as, of_reply, all_said, out_of_memory, IsOfReply, AllEnd, tells_faults, is_known}
use Rattle.arbac_desk.proofs.AnswerLemmas.{ends_known, faultless}
use Rattle.arbac_desk.proofs.AnswerLemmas.{Sorts, is_right, is_malformed, is_no_text}

-- what is a reply to the first bytes of a file, one more than the most at most, is one to all of them
abbrev pub IsOfAll : ℕ → (List ℕ → ℕ → List ℕ → Type 0) → Type 0
IsOfAll most Replies = (all bytes : List ℕ) (status : ℕ) (text : List ℕ) → bytes ≡ take (most + 1) all → Replies bytes status text → Replies all status text

-- it is one to bytes that the shelf tells, if it tells any
pub held : (most : ℕ) (Replies : List ℕ → ℕ → List ℕ → Type 0) → IsOfAll most Replies → (bytes : List ℕ) (status : ℕ) (text : List ℕ)
    (told : Option (List ℕ)) → IfSome told (λ all. bytes ≡ take (most + 1) all) → Replies bytes status text
    → (all : List ℕ) × AreTold told all × Replies all status text
held most Replies of_all bytes status text None e h = (bytes, tt, h)
held most Replies of_all bytes status text (Some all) e h = (all, refl, of_all all bytes status text e h)

-- the reply to what was fetched is what is to be written
pub fetched : (most : ℕ) (Replies : List ℕ → ℕ → List ℕ → Type 0) → IsOfAll most Replies → (name bytes : List ℕ) (shelf shelf' : ShelfView)
    (reply : Result Reply AllocError) → HasFetched shelf shelf' → IfSome (shelf.told name) (λ all. bytes ≡ take (most + 1) all)
    → IfOk reply (λ r. Replies bytes r.status r.text.items) → IfOk reply (λ r. IsFileReply Replies name shelf shelf' r.status r.text.items)
fetched most Replies of_all name bytes shelf shelf' (Ok reply) fetch e h =
    let all = held most Replies of_all bytes reply.status reply.text.items (shelf.told name) e h in
    inl (record { fetched = fetch; bytes = all.0; told = all.1; reply = all.2 })
fetched most Replies of_all name bytes shelf shelf' (Err error) fetch e h = tt

module _ (Replies : List ℕ → ℕ → List ℕ → Type 0) (name : List ℕ) (shelf shelf' : ShelfView) where
  -- the reply is written, or what is told says why not
  pub answered : (sink sink' : SinkView) (reply : Result Reply AllocError) (status : ℕ) → HasFetched shelf shelf' ⊎ HasMissed shelf shelf' name
      → IfOk reply (λ r. IsFileReply Replies name shelf shelf' r.status r.text.items) → Says (IsOf reply) sink sink' status
      → IsFileAnswer Replies name shelf shelf' sink sink' status
  answered sink sink' reply status asked h says = record {
    asked = asked;
    says = says_as (IsOf reply) (IsFileReply Replies name shelf shelf') sink sink' status (of_reply (IsFileReply Replies name shelf shelf') reply h) says;
  }

  -- a reply to bytes has a status of its own, and where the file couldn't be read that is told
  pub all_end : ((bytes : List ℕ) (status : ℕ) (text : List ℕ) → Replies bytes status text → IsOfReply status)
      → AllEnd (IsFileReply Replies name shelf shelf') shelf shelf'
  all_end of status text (inl read) = inl (read.fetched.counted, of read.bytes status text read.reply)
  all_end of status text (inr unread) = inr (unread.missed.counted, unread.told)

  -- a reply that tells no fault of the shelf is one to the bytes that it tells
  pub of_told : (bytes : List ℕ) (status : ℕ) (text : List ℕ) → shelf.told name ≡ Some bytes → (status ≡ READ_FAULT → ⊥)
      → IsFileReply Replies name shelf shelf' status text → Replies bytes status text
  of_told bytes status text told other (inl read) =
      let same : read.bytes ≡ bytes = subst (λ t. AreTold t read.bytes) told read.told in
      subst (λ b. Replies b status text) same read.reply
  of_told bytes status text told other (inr unread) = absurd (other unread.told)

-- no memory was left: no file was fetched, and nothing was written
pub nothing_done : (Replies : List ℕ → ℕ → List ℕ → Type 0) (name : List ℕ) (shelf : ShelfView) (sink : SinkView)
    → IsFileAnswer Replies name shelf shelf sink sink NO_MEMORY
nothing_done Replies name shelf sink = record {
  asked = inl (record { counted = refl; missed = refl });
  says = out_of_memory (IsFileReply Replies name shelf shelf) sink;
}

-- what is known of the replies of a command of one file: their statuses, and which bytes are told as malformed
pub record AreReplies (Replies : List ℕ → ℕ → List ℕ → Type 0) (IsRight : ℕ → Type 0) (IsText : List ℕ → Type 0) : Type 0 where
  pub of_reply : (bytes : List ℕ) (status : ℕ) (text : List ℕ) → Replies bytes status text → IsOfReply status
  pub sorts : (bytes : List ℕ) (status : ℕ) (text : List ℕ) → Replies bytes status text → Sorts IsRight (IsText bytes) status
  pub memory : (status : ℕ) → status ≡ NO_MEMORY → IsRight status

module _ (Replies : List ℕ → ℕ → List ℕ → Type 0) (IsRight : ℕ → Type 0) (IsText : List ℕ → Type 0) (are : AreReplies Replies IsRight IsText)
    (name : List ℕ) (shelf shelf' : ShelfView) (sink sink' : SinkView) (status : ℕ) (answer : IsFileAnswer Replies name shelf shelf' sink sink' status)
  where
    ends : AllEnd (IsFileReply Replies name shelf shelf') shelf shelf'
    ends = all_end Replies name shelf shelf' are.of_reply

    -- the answer tells its faults
    pub file_faults : TellsFaults shelf shelf' sink sink' status
    file_faults = tells_faults (IsFileReply Replies name shelf shelf') shelf shelf' sink sink' status ends answer.says

    -- its status stands in the table
    pub file_known : IsStatus status
    file_known = is_known (IsFileReply Replies name shelf shelf') sink sink' status
        (λ told text reply. ends_known shelf shelf' told (ends told text reply)) answer.says

    -- where neither count rose and memory was left, the file's bytes have a reply
    sorted : (bytes : List ℕ) → shelf.told name ≡ Some bytes → IsFaultless shelf shelf' sink sink'
        → (status ≡ NO_MEMORY) ⊎ Sorts IsRight (IsText bytes) status
    sorted bytes told none = by_reply (faultless (IsFileReply Replies name shelf shelf') shelf shelf' sink sink' status ends answer.says none)
      where
        by_reply : (status ≡ NO_MEMORY) ⊎ ((text : List ℕ) × IsFileReply Replies name shelf shelf' status text × (status ≡ READ_FAULT → ⊥))
            → (status ≡ NO_MEMORY) ⊎ Sorts IsRight (IsText bytes) status
        by_reply (inl out) = inl out
        by_reply (inr (text, reply, other)) = inr (are.sorts bytes status text (of_told Replies name shelf shelf' bytes status text told other reply))

    -- a text is answered, where neither count rose and memory was left
    pub is_answered : IfSome (shelf.told name) (λ bytes. IsText bytes → IsFaultless shelf shelf' sink sink' → IsRight status)
    is_answered = by_told (shelf.told name) refl
      where
        by_told : (told : Option (List ℕ)) → shelf.told name ≡ told
            → IfSome told (λ bytes. IsText bytes → IsFaultless shelf shelf' sink sink' → IsRight status)
        by_told None e = tt
        by_told (Some bytes) e = λ is none. is_right IsRight (IsText bytes) status is (are.memory status) (sorted bytes e none)

    -- the status is no fault, so the file's bytes have a reply, which was said
    pub said_of : (bytes : List ℕ) → shelf.told name ≡ Some bytes → (status ≡ READ_FAULT → ⊥) → (status ≡ WRITE_FAULT → ⊥)
        → (status ≡ NO_MEMORY → ⊥) → (text : List ℕ) × Replies bytes status text
    said_of bytes told read write memory =
        let said = all_said (IsFileReply Replies name shelf shelf') sink sink' status answer.says write memory in
        (said.text, of_told Replies name shelf shelf' bytes status said.text told read said.wanted)

    -- what is told as malformed is no such text, and what is none is told so, where neither count rose and memory was left
    pub is_refused : IfSome (shelf.told name) (λ bytes. (status ≡ MALFORMED → IsText bytes → ⊥)
        × ((IsText bytes → ⊥) → IsFaultless shelf shelf' sink sink' → (status ≡ MALFORMED) ⊎ (status ≡ NO_MEMORY)))
    is_refused = by_told (shelf.told name) refl
      where
        by_told : (told : Option (List ℕ)) → shelf.told name ≡ told
            → IfSome told (λ bytes. (status ≡ MALFORMED → IsText bytes → ⊥)
            × ((IsText bytes → ⊥) → IsFaultless shelf shelf' sink sink' → (status ≡ MALFORMED) ⊎ (status ≡ NO_MEMORY)))
        by_told None e = tt
        by_told (Some bytes) e = (
          λ three is.
              let h : status ≡ 3 = three in
              let said = said_of bytes e (λ r. let f : status ≡ 4 = r in omega (arith, h, f)) (λ w. let f : status ≡ 5 = w in omega (arith, h, f))
              (λ m. let f : status ≡ 7 = m in omega (arith, h, f)) in
              is_no_text IsRight (IsText bytes) status (are.sorts bytes status said.0 said.1) three is,
          λ other none. is_malformed IsRight (IsText bytes) status other (sorted bytes e none),
        )
