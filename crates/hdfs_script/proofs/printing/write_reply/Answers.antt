use Rattle.std.proofs.Common.{ℕ, List, sym, ◌∙◌, ap, subst}
use Rattle.hdfs_streams.specs.Streams.{Prints}
use Rattle.hdfs_script.specs.Texts.{listed_text, reply_text}
use Rattle.hdfs_script.proofs.printing.write_reply.Goals as goal

pub returns-in-Created : goal.returns-in-Created
returns-in-Created g c =
    subst (λ (text : List ℕ). Prints (g.K.Sink.shown c.args.sink.now) text c.write_all.result (g.K.Sink.shown c.write_all.new.sink)) (sym (ap reply_text c.in-Created.is)) c.write_all.ensures

pub returns-in-Appended : goal.returns-in-Appended
returns-in-Appended g c =
    subst (λ (text : List ℕ). Prints (g.K.Sink.shown c.args.sink.now) text c.write_all-in-Appended.result (g.K.Sink.shown c.write_all-in-Appended.new.sink)) (sym (ap reply_text c.in-Appended.is)) c.write_all-in-Appended.ensures

pub returns-in-Written : goal.returns-in-Written
returns-in-Written g c =
    subst (λ (text : List ℕ). Prints (g.K.Sink.shown c.args.sink.now) text c.write_written.result (g.K.Sink.shown c.write_written.new.sink)) (sym (ap reply_text c.in-Written.is)) c.write_written.ensures

pub returns-in-Closed : goal.returns-in-Closed
returns-in-Closed g c =
    subst (λ (text : List ℕ). Prints (g.K.Sink.shown c.args.sink.now) text c.write_all-in-Closed.result (g.K.Sink.shown c.write_all-in-Closed.new.sink)) (sym (ap reply_text c.in-Closed.is)) c.write_all-in-Closed.ensures

pub returns-in-Made : goal.returns-in-Made
returns-in-Made g c =
    subst (λ (text : List ℕ). Prints (g.K.Sink.shown c.args.sink.now) text c.write_all-in-Made.result (g.K.Sink.shown c.write_all-in-Made.new.sink)) (sym (ap reply_text c.in-Made.is)) c.write_all-in-Made.ensures

pub returns-in-Deleted : goal.returns-in-Deleted
returns-in-Deleted g c =
    subst (λ (text : List ℕ). Prints (g.K.Sink.shown c.args.sink.now) text c.write_all-in-Deleted.result (g.K.Sink.shown c.write_all-in-Deleted.new.sink)) (sym (ap reply_text c.in-Deleted.is)) c.write_all-in-Deleted.ensures

pub returns-in-Info : goal.returns-in-Info
returns-in-Info g c =
    subst (λ (text : List ℕ). Prints (g.K.Sink.shown c.args.sink.now) text c.write_info.result (g.K.Sink.shown c.write_info.new.sink)) (sym (ap reply_text c.in-Info.is)) c.write_info.ensures

pub returns-in-Listed : goal.returns-in-Listed
returns-in-Listed g c =
    subst (λ (text : List ℕ). Prints (g.K.Sink.shown c.args.sink.now) text c.write_listed.result (g.K.Sink.shown c.write_listed.new.sink))
    (ap listed_text c.as_slice-in-Listed.ensures ∙ sym (ap reply_text c.in-Listed.is)) c.write_listed.ensures
