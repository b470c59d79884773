use Rattle.sdc_base.proofs.PuttingRows.{put-list}
use Rattle.sdc_base.proofs.component_rows.push_at.Goals as goal

pub returns : goal.returns
returns c = put-list c.args.lists.now.items c.args.at c.args.number c.index_mut.result.now c.push.new.self c.requires.within c.index_mut.ensures.value c.in_ok-push.ensures.items
