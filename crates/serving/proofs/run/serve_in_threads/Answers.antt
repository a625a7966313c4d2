use denote.Exit.{unseen}
use denote.Param.Send.{Quiet-if, sendable}
use mir.Syntax.{of_param}
use Rattle.serving.proofs.run.serve_in_threads.Goals as goal

-- what the closure asks, one behind the other; and then what its types are to be
pub scoped-over-requires : goal.scoped-over-requires
scoped-over-requires g c =
    let b = c.type_bounds in record {
      at = λ a. (
        (
          record { owned = b.send-L.owned; leaving = λ k. Quiet-if (k (of_param 3)) unseen unseen (λ x w. tt) (λ x w. tt) },
          record { owned = b.send-L-Input.owned; leaving = λ k. Quiet-if (k (of_param 7)) unseen unseen (λ x w. tt) (λ x w. tt) },
          record { owned = b.send-L-Output.owned; leaving = λ k. Quiet-if (k (of_param 8)) unseen unseen (λ x w. tt) (λ x w. tt) },
        ),
        (
          (
            record { owned = b.send-B.owned; leaving = λ k. Quiet-if (k (of_param 0)) unseen unseen (λ x w. tt) (λ x w. tt) },
            search (sendable, b.sync-B),
            search (sendable, b.sync-R),
            c.requires.lanes,
            c.requires.delivery,
          ),
          (
            c.requires.house,
            (
              c.requires.shutdown_handles,
              (
                c.requires.client_shutdown_handles,
                (
                  c.requires.imap,
                  (
                    c.parcel_of-dealt.ensures,
                    (
                      c.requires.live,
                      (
                        record { owned = b.send-B.owned; leaving = λ k. Quiet-if (k (of_param 0)) unseen unseen (λ x w. tt) (λ x w. tt) },
                        record { owned = b.send-H.owned; leaving = λ k. Quiet-if (k (of_param 1)) unseen unseen (λ x w. tt) (λ x w. tt) },
                        record { owned = b.send-L.owned; leaving = λ k. Quiet-if (k (of_param 3)) unseen unseen (λ x w. tt) (λ x w. tt) },
                        record { owned = b.send-F.owned; leaving = λ k. Quiet-if (k (of_param 6)) unseen unseen (λ x w. tt) (λ x w. tt) },
                        record { owned = b.send-L-Input.owned; leaving = λ k. Quiet-if (k (of_param 7)) unseen unseen (λ x w. tt) (λ x w. tt) },
                        record { owned = b.send-L-Output.owned; leaving = λ k. Quiet-if (k (of_param 8)) unseen unseen (λ x w. tt) (λ x w. tt) },
                        search (sendable, b.sync-B),
                        search (sendable, b.sync-R),
                      ),
                    ),
                  ),
                ),
              ),
            ),
          ),
        ),
      );
    }
