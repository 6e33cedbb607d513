use Rattle.test_texts.proofs.streams.Stream.next.Goals as goal

pub invariant_of-self-in-None : goal.invariant_of-self-in-None
invariant_of-self-in-None c = record { same = rw c.in-None.is at c.in_ok-message.ensures.awaits }
