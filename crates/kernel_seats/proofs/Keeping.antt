-- The outputs that a session holds stay what the lock keeps of them: on a longer spool, with one reply more, and when a
-- release takes their front.
use Rattle.std.proofs.Common.{◌≡◌, inl, inr, ⊎_elim, ℕ, ◌≤◌, ◌<◌, ◌+◌, List, [], ◌∷◌, ◌++◌, length, drop, refl, ap, sym, ◌∙◌, subst, arith}
use Rattle.std.proofs.Common.{length-append, length-take}
use Rattle.std.specs.Prelude.{max, IsSome, is_none}
use Rattle.std.specs.Option.{option_to_list}
use Rattle.std.proofs.lemmas.List.{take-append-le, take_all, take_at}
use Rattle.model.specs.Stream.{Octets}
use Rattle.model.specs.Spool.{Spool, first}
use Rattle.model.specs.Answer.{answer, new_session}
use Rattle.model.specs.Reads.{reads}
use Rattle.model.specs.Service.{mode_of}
use Rattle.model.specs.declared.change.Change.{Change}
use Rattle.model.specs.declared.message.Message.{Message}
use Rattle.model.specs.declared.message.Mark.{Mark}
use Rattle.model.specs.declared.session.Answer.{Answer}
use Rattle.model.specs.declared.session.Session.{Session}
use Rattle.kernel_outbox.specs.Queue.{HeldOutput, last_dependency}
use Rattle.kernel_seats.specs.Kept.{Source, answer_at, made_at, IsReply, IsGreeting, AreReplies, SeatIsKept}

module _ (host : Octets) where
  -- what a front and its change take of the spool is there
  within : (S : Spool) (o : Source) → o.position ≤ length S
      → first S (o.position + length (made_at host S o)) ≡ first S o.position ++ made_at host S o
      → o.position + length (made_at host S o) ≤ length S
  within S o le whole =
      omega (
        arith,
        ap length whole,
        length-append (first S o.position) (made_at host S o),
        length-take o.position S,
        length-take (o.position + length (made_at host S o)) S,
      )

  -- ---- a longer spool

  abbrev IsReplyBy : Spool → ℕ → ℕ → Source → HeldOutput → Spool → Type 0
  IsReplyBy R before cut o held front =
      (o.position ≤ length R) × IsSome (mode_of o.session.awaits)
      × (cut < length (answer host front o.session o.message o.moment o.mark).reply)
      × (held.octets ≡ drop cut (answer host front o.session o.message o.moment o.mark).reply)
      × (held.dependency ≡ max before (reads host front o.session o.message o.moment o.mark))
      × (held.ends ≡ is_none (mode_of (answer host front o.session o.message o.moment o.mark).next.awaits))
      × (first R (o.position + length (option_to_list (answer host front o.session o.message o.moment o.mark).change))
      ≡ front ++ option_to_list (answer host front o.session o.message o.moment o.mark).change)

  as_record : (R : Spool) (before cut : ℕ) (o : Source) (held : HeldOutput) → IsReplyBy R before cut o held (first R o.position)
      → IsReply host R before cut o held
  as_record R before cut o held h = record {
    position = h.0;
    awaited = h.1;
    cut_within = h.2;
    octets = h.3;
    dependency = h.4;
    ends = h.5;
    change = h.6;
  }

  same_first : (S more : Spool) (o : Source) → o.position ≤ length S → first (S ++ more) o.position ≡ first S o.position
  same_first S more o le = take-append-le o.position S more le

  IsReply-more : (S more : Spool) (before cut : ℕ) (o : Source) (held : HeldOutput) → IsReply host S before cut o held
      → IsReply host (S ++ more) before cut o held
  IsReply-more S more before cut o held h =
      let fits = within S o h.position h.change in
      let by : IsReplyBy (S ++ more) before cut o held (first S o.position) = (
        omega (arith, h.position, length-append S more),
        h.awaited,
        h.cut_within,
        h.octets,
        h.dependency,
        h.ends,
        take-append-le (o.position + length (made_at host S o)) S more fits ∙ h.change,
      ) in
      as_record (S ++ more) before cut o held (subst (IsReplyBy (S ++ more) before cut o held) (sym (same_first S more o h.position)) by)

  -- what follows an output
  abbrev Follow : Spool → Source → ℕ → List HeldOutput → Session → Spool → Type 0
  Follow R o dependency rest last front =
      AreReplies host R (answer host front o.session o.message o.moment o.mark).next dependency
      (o.position + length (option_to_list (answer host front o.session o.message o.moment o.mark).change)) rest last

  AreReplies-more : (S more : Spool) (session : Session) (before from : ℕ) (held : List HeldOutput) (last : Session)
      → AreReplies host S session before from held last → AreReplies host (S ++ more) session before from held last
  AreReplies-more S more session before from [] last h = h
  AreReplies-more S more session before from (held ∷ rest) last h =
      let o : Source = h.0 in
      let later =
      AreReplies-more S more (answer_at host S o).next held.dependency (o.position + length (made_at host S o)) rest last h.4 in (
        o,
        IsReply-more S more before 0 o held h.1,
        h.2,
        h.3,
        subst (Follow (S ++ more) o held.dependency rest last) (sym (same_first S more o h.1.position)) later,
      )

  pub SeatIsKept-more : (S more : Spool) (given : ℕ) (held : List HeldOutput) (last : Session) → SeatIsKept host S given held last
      → SeatIsKept host (S ++ more) given held last
  SeatIsKept-more S more given [] last h = h
  SeatIsKept-more S more given (held ∷ rest) last h =
      ⊎_elim
      (λ (g : (cut : ℕ) × IsGreeting host given cut held × AreReplies host S new_session 0 0 rest last). inl (
        g.0,
        g.1,
        AreReplies-more S more new_session 0 0 rest last g.2,
      ))
      (λ (r : (o : Source) × (cut : ℕ) × IsReply host S given cut o held × AreReplies host S (answer_at host S o).next held.dependency
      (o.position + length (made_at host S o)) rest last).
      let o : Source = r.0 in
      inr (
        o,
        r.1,
        IsReply-more S more given r.1 o held r.2,
        subst (Follow (S ++ more) o held.dependency rest last) (sym (same_first S more o r.2.position))
            (AreReplies-more S more (answer_at host S o).next held.dependency (o.position + length (made_at host S o)) rest last r.3),
      ))
      h

  -- ---- a reply more, at the end of the spool

  module _ (S : Spool) (x : Session) (m : Message) (t : ℕ) (mark : Mark) where
    abbrev pub answer_now : Answer
    answer_now = answer host S x m t mark

    abbrev pub changes_now : List Change
    changes_now = option_to_list answer_now.change

    abbrev pub output_now : ℕ → HeldOutput
    output_now before = record {
      octets = answer_now.reply;
      dependency = max before (reads host S x m t mark);
      ends = is_none (mode_of answer_now.next.awaits);
    }

    abbrev source_now : Source
    source_now = record { message = m; moment = t; mark = mark; session = x; position = length S }

    whole_front : first (S ++ changes_now) (length S) ≡ S
    whole_front = take_at S changes_now (length S) refl

    reply_now : (before : ℕ) → IsSome (mode_of x.awaits) → 0 < length answer_now.reply
        → IsReply host (S ++ changes_now) before 0 source_now (output_now before)
    reply_now before awaited filled =
        let whole : first (S ++ changes_now) (length S + length changes_now) ≡ S ++ changes_now =
        take_all (length S + length changes_now) (S ++ changes_now) (omega (arith, length-append S changes_now)) in
        let by : IsReplyBy (S ++ changes_now) before 0 source_now (output_now before) S =
        (omega (arith, length-append S changes_now), awaited, filled, refl, refl, refl, whole) in
        as_record (S ++ changes_now) before 0 source_now (output_now before)
        (subst (IsReplyBy (S ++ changes_now) before 0 source_now (output_now before)) (sym whole_front) by)

    last_reply : (session : Session) (before from : ℕ) → session ≡ x → from ≤ length S → IsSome (mode_of x.awaits)
        → 0 < length answer_now.reply
        → AreReplies host (S ++ changes_now) session before from (output_now before ∷ []) answer_now.next
    last_reply session before from is le awaited filled =
        let end : Follow (S ++ changes_now) source_now (output_now before).dependency [] answer_now.next S = refl in (
          source_now,
          reply_now before awaited filled,
          sym is,
          le,
          subst (Follow (S ++ changes_now) source_now (output_now before).dependency [] answer_now.next) (sym whole_front) end,
        )

    AreReplies-answered : (session : Session) (before from : ℕ) (held : List HeldOutput) → from ≤ length S → IsSome (mode_of x.awaits)
        → 0 < length answer_now.reply → AreReplies host S session before from held x
        → AreReplies host (S ++ changes_now) session before from (held ++ output_now (last_dependency before held) ∷ []) answer_now.next
    AreReplies-answered session before from [] le awaited filled h = last_reply session before from h le awaited filled
    AreReplies-answered session before from (held ∷ rest) le awaited filled h =
        let o : Source = h.0 in
        let fits = within S o h.1.position h.1.change in
        let later = AreReplies-answered (answer_at host S o).next held.dependency (o.position + length (made_at host S o)) rest fits awaited
        filled h.4 in (
          o,
          IsReply-more S changes_now before 0 o held h.1,
          h.2,
          h.3,
          subst (Follow (S ++ changes_now) o held.dependency (rest ++ output_now (last_dependency held.dependency rest) ∷ [])
              answer_now.next) (sym (same_first S changes_now o h.1.position)) later,
        )

    pub SeatIsKept-answered : (given : ℕ) (held : List HeldOutput) → IsSome (mode_of x.awaits) → 0 < length answer_now.reply
        → SeatIsKept host S given held x
        → SeatIsKept host (S ++ changes_now) given (held ++ output_now (last_dependency given held) ∷ []) answer_now.next
    SeatIsKept-answered given [] awaited filled h =
        let end : Follow (S ++ changes_now) source_now (output_now given).dependency [] answer_now.next S = refl in
        inr (
          source_now,
          0,
          reply_now given awaited filled,
          subst (Follow (S ++ changes_now) source_now (output_now given).dependency [] answer_now.next) (sym whole_front) end,
        )
    SeatIsKept-answered given (held ∷ rest) awaited filled h =
        ⊎_elim
        (λ (g : (cut : ℕ) × IsGreeting host given cut held × AreReplies host S new_session 0 0 rest x).
        inl (
          g.0,
          g.1,
          subst (λ (n : ℕ). AreReplies host (S ++ changes_now) new_session 0 0
              (rest ++ output_now (last_dependency n rest) ∷ []) answer_now.next) (sym g.1.dependency)
              (AreReplies-answered new_session 0 0 rest (omega arith) awaited filled g.2),
        ))
        (λ (r : (o : Source) × (cut : ℕ) × IsReply host S given cut o held × AreReplies host S (answer_at host S o).next held.dependency
        (o.position + length (made_at host S o)) rest x).
        let o : Source = r.0 in
        let fits = within S o r.2.position r.2.change in
        let later = AreReplies-answered (answer_at host S o).next held.dependency (o.position + length (made_at host S o)) rest fits awaited
        filled r.3 in
        inr (
          o,
          r.1,
          IsReply-more S changes_now given r.1 o held r.2,
          subst (Follow (S ++ changes_now) o held.dependency (rest ++ output_now (last_dependency held.dependency rest) ∷ [])
              answer_now.next) (sym (same_first S changes_now o r.2.position)) later,
        ))
        h
