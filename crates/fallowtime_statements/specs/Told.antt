-- Documents that commands are answered with that ask nothing of a store (MongoDB's manual, the page of each command).
use Rattle.std.specs.Prelude.{ℕ, pos, false, true, List, codes}
use Rattle.bson_base.specs.Value.{Value, Members, array, boolean, document, double, int32, item, member, no_items, no_members, scalar, string}

-- a command that was done ends its answer so: the double 1.0
abbrev pub done : Members
done = member (codes "ok") (scalar (double 4607182418800017408)) no_members

abbrev pub whole : ℕ → Value
whole n = scalar (int32 (pos n))

abbrev pub yes : Value
yes = scalar (boolean true)

-- A server that stands alone, so that no driver sends a transaction or asks for one thing twice ("hello"): the limits of a document, a
-- message and a list, half an hour for a session, and the wire versions up to that of MongoDB 4.4.
abbrev pub hello : Members
hello =
    member (codes "helloOk") yes (member (codes "ismaster") yes (member (codes "isWritablePrimary") yes
    (member (codes "maxBsonObjectSize") (whole 16777216) (member (codes "maxMessageSizeBytes") (whole 48000000) (member (codes "maxWriteBatchSize") (whole 100000)
    (member (codes "logicalSessionTimeoutMinutes") (whole 30) (member (codes "minWireVersion") (whole 0) (member (codes "maxWireVersion") (whole 9)
    (member (codes "readOnly") (scalar (boolean false)) done)))))))))

-- "ping"
abbrev pub ping : Members
ping = done

-- "buildInfo"
abbrev pub build_info : Members
build_info =
    member (codes "version") (scalar (string (codes "4.4.0"))) (member (codes "versionArray") (array (item (whole 4) (item (whole 4) (item (whole 0) (item (whole 0) no_items)))))
    (member (codes "bits") (whole 64) (member (codes "maxBsonObjectSize") (whole 16777216) done)))

-- an index has no effect, so the only one is that of the `_id` ("createIndexes")
abbrev pub indexed : Members
indexed =
    member (codes "numIndexesBefore") (whole 1) (member (codes "numIndexesAfter") (whole 1)
    (member (codes "note") (scalar (string (codes "an index has no effect here"))) done))

-- the only database ("listDatabases")
abbrev pub databases : List ℕ → Members
databases db = member (codes "databases") (array (item (document (member (codes "name") (scalar (string db)) no_members)) no_items)) done
