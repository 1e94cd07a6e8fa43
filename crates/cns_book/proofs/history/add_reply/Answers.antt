use Rattle.cns_book.proofs.Common.{◌≡◌, ◌∙◌, [], ◌∷◌, length, length-append, arith, unwrap_or-slice_get, Reply, ◌++◌}
use Rattle.cns_book.proofs.BookTaking.{longer}
use Rattle.std.proofs.Math.Seq.{get_or-append_seam}
use Rattle.cns_book.proofs.history.add_reply.Goals as goal

pub returns : goal.returns
returns g c =
    let rs = c.args.replies.now.items in let r = c.args.reply.now in
    let at : c.len-place.result ≡ length rs = c.len-place.ensures ∙ c.args.replies.now.ok.0 in
    let more = length-append rs (r ∷ []) in
    rw (c.in-Ok.ensures.items, at) (record { is = unwrap_or-slice_get (rs ++ r ∷ []) (length rs) Reply.Accepted ∙ get_or-append_seam rs r [] Reply.Accepted; among = omega (arith, more); stays = longer rs r; one = omega (arith, more) })
